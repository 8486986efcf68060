use Rattle.std.proofs.Common.{◌≡◌, ◌∙◌, ap, sym, true, arith, ◌+◌}
use Rattle.std.specs.Prelude.{slice_index}
use Rattle.cargo_platform.specs.Chars.{is_identifier_start}
use Rattle.cargo_platform.proofs.OneCut.{start_is_ascii}
use Rattle.cargo_platform.proofs.Scanning.{marked_stands}
use Rattle.cargo_platform.proofs.tokens.marked_at.Goals as goal

pub returns-in-Ascii-clause-token : goal.returns-in-Ascii-clause-token
returns-in-Ascii-clause-token c =
    let text = c.args.source.now.text.now in
    let same = c.look-fourth.ensures.same ∙ c.look-third.ensures.same in
    let found = rw same at c.name-end.ensures in
    let begins = sym c.if-begins_identifier.ensures in
    let here = rw c.in-Ascii.is at c.look-third.ensures.sees in
    let first : is_identifier_start (slice_index text (c.args.start + 2)) ≡ true =
    ap is_identifier_start (here.1.ascii (start_is_ascii _ begins)) ∙ begins in
    record {
      stands = marked_stands text _ c.args.start c.name-end.result.1 (c.requires.there.ascii (omega arith))
          (c.requires.number_sign.ascii (omega arith)) first (omega (arith, found.order)) found.boundary.0 found.name
          (λ i above below. found.rest i (omega arith) below) found.end;
      boundary = found.boundary;
      sees = found.sees;
    }
