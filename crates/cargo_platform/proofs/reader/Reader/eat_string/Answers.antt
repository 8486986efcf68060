use Rattle.std.proofs.Common.{◌≡◌, refl, sym, ap, subst, ◌∙◌, ◌+◌, ◌++◌, Some, arith}
use Rattle.cargo_platform.specs.declared.tokens.TokenFaultKind.TheVariants.{UnterminatedString}
use Rattle.cargo_platform.specs.Tokens.{Lexeme, String, written}
use Rattle.cargo_platform.specs.Inside.Ahead.{Standing}
use Rattle.cargo_platform.specs.Inside.Looking.{IsReadingAt}
use Rattle.cargo_platform.specs.Inside.Parsing.{IsString}
use Rattle.cargo_platform.specs.Inside.Parsing.{TakesToken}
use Rattle.cargo_platform.proofs.OneCut.{head_of}
use Rattle.cargo_platform.proofs.Looking.{ascii_step}
use Rattle.cargo_platform.proofs.Scanning.{string_stands, unterminated}
use Rattle.cargo_platform.proofs.Coming.{ahead_at, lacks, fault_lacks, finds, takes}
use Rattle.cargo_platform.proofs.reader.Reader.eat_string.Goals as goal

pub returns-then-not-is_byte-clause-not_taken : goal.returns-then-not-is_byte-clause-not_taken
returns-then-not-is_byte-clause-not_taken c =
    let r = c.self.inside in
    let i = c.self.invariant in (
      refl,
      rw (← ap (λ (z : Standing). z.ahead) c.self.view_is)
          (lacks IsString r.source.text.now r.place r.seen i.past i.sees (λ t b bs rest p w e s.
          let first : 0x22 ≡ b = head_of (sym (ap (λ (z : Lexeme). written z ++ rest) p.1) ∙ e) in
          c.is_byte.ensures.no c.if-not-is_byte.true (rw first s))),
    )

pub returns-in-Some-clause-not_taken : goal.returns-in-Some-clause-not_taken
returns-in-Some-clause-not_taken c =
    let r = c.self.inside in
    let i = c.self.invariant in
    let found = rw c.in-Some.is at i.found in
    let lacks_it = fault_lacks IsString r.source.text.now r.place c.in-Some._kind i.reached.0 found in
    (refl, rw (← ap (λ (z : Standing). z.ahead) c.self.view_is) lacks_it)

pub invariant_of-self : goal.invariant_of-self
invariant_of-self c =
    let r = c.self.inside in
    let i = c.self.invariant in
    let text = r.source.text.now in
    let here = rw (c.is_byte.ensures.yes c.if-not-is_byte.false) at i.sees in
    let step = ascii_step text r.place i.utf8 here.1.within (omega (arith, here.1.ascii here.0)) i.reached in
    let ends = c.in_default-value.ensures in
    subst
    (λ t. IsReadingAt t.now r.place r.seen (Some UnterminatedString) c.value.new.self.looks r.length) (sym ends.same)
    (finds text r.place r.seen r.fault UnterminatedString r.source.looks c.value.new.self.looks r.length i
    c.in_default.is (unterminated text r.place here.1 ends.none) (omega (arith, ends.cost_to_end.at_most, step.1))
    (record {
      grows = ends.cost_to_end.grows;
      at_least = λ small. omega (arith, ends.cost_to_end.at_least small, step.1);
    }))

pub returns-in_default-value-clause-not_taken : goal.returns-in_default-value-clause-not_taken
returns-in_default-value-clause-not_taken c =
    let r = c.self.inside in
    let i = c.self.invariant in
    let text = r.source.text.now in
    let here = rw (c.is_byte.ensures.yes c.if-not-is_byte.false) at i.sees in
    let ends = c.in_default-value.ensures in (
      rw (← ap (λ (z : Standing). z.ahead) c.self.view_is) (ap (λ z. ahead_at z.now r.place) ends.same),
      rw (← ap (λ (z : Standing). z.ahead) c.self.view_is)
          (fault_lacks IsString text r.place UnterminatedString i.reached.0
          (unterminated text r.place here.1 ends.none)),
    )

pub returns-clause-taken : goal.returns-clause-taken
returns-clause-taken c =
    let r = c.self.inside in
    let i = c.self.invariant in
    let text = r.source.text.now in
    let to = c.past_spaces.result.0 in
    let end = c.in-Some-value.quote in
    let value = c.in-Some-value.value.now in
    let here = rw (c.is_byte.ensures.yes c.if-not-is_byte.false) at i.sees in
    let ends = c.in-Some-value.ensures in
    let quote = ends.at_quote in
    let stands = string_stands text value r.place end (here.1.ascii here.0) (quote.ascii (omega arith)) ends.order
    quote.within ends.value ends.utf8 ends.inside in
    let found = rw (c.look-behind.ensures.same ∙ ends.same) at c.past_spaces.ensures in
    rw (← ap (λ (z : Standing). z.ahead) c.self.view_is)
    (subst
    (λ z. TakesToken (ahead_at text r.place) (ahead_at z.now to) (String value)) (sym found.same)
    (takes text r.place (end + 1) to (String value) i.reached.0 stands found.spaces))
