use Rattle.std.proofs.Common.{sym, subst, arith, ◌+◌}
use Rattle.cargo_platform.specs.Tokens.{String}
use Rattle.cargo_platform.specs.Inside.Scanning.{IsTokenAt}
use Rattle.cargo_platform.proofs.Scanning.{string_stands, unterminated}
use Rattle.cargo_platform.proofs.tokens.string_at.Goals as goal

pub string_between-requires-clause-stands : goal.string_between-requires-clause-stands
string_between-requires-clause-stands c =
    let found = c.in-Some.ensures in
    let quote = found.at_quote in
    subst (λ t. IsTokenAt t.now (String c.in-Some.value.now) c.args.start (c.in-Some.quote + 1)) (sym found.same)
    (string_stands c.args.source.now.text.now _ c.args.start c.in-Some.quote
    (c.requires.there.ascii (omega arith)) (quote.ascii (omega arith)) found.order quote.within
    found.value found.utf8 found.inside)

pub returns-in-None-clause-fault : goal.returns-in-None-clause-fault
returns-in-None-clause-fault c =
    let ends = c.in-None.ensures in
    record {
      fault = unterminated c.args.source.now.text.now c.args.start c.requires.there ends.none;
      cost = omega (arith, ends.cost_to_end.at_most, c.requires.there.fewer);
      finds = record {
        grows = ends.cost_to_end.grows;
        at_least = λ small. omega (arith, ends.cost_to_end.at_least small, c.requires.there.fewer);
      };
    }
