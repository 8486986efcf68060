use Rattle.std.proofs.Common.{◌≡◌, refl, sym, ap, subst, ◌∙◌, ◌+◌, true, false, true≢false, arith}
use Rattle.std.specs.Prelude.{slice_index}
use Rattle.cargo_platform.specs.declared.source.Look.TheVariants.{Ascii}
use Rattle.cargo_platform.specs.Chars.{is_identifier_start}
use Rattle.cargo_platform.specs.Tokens.{Ident}
use Rattle.cargo_platform.specs.Inside.Ahead.{Standing}
use Rattle.cargo_platform.specs.Inside.Looking.{IsReadingAt}
use Rattle.cargo_platform.specs.Inside.Parsing.{TakesToken}
use Rattle.cargo_platform.specs.Inside.Scanning.{IsTokenAt}
use Rattle.cargo_platform.proofs.Looking.{ascii_step}
use Rattle.cargo_platform.proofs.Scanning.{plain_stands}
use Rattle.cargo_platform.proofs.Coming.{ahead_at, lacks_name, name_ahead, token_no_fault, costs_then, reads_on, takes}
use Rattle.cargo_platform.proofs.reader.Reader.eat_name.Goals as goal

pub returns-in_default : goal.returns-in_default
returns-in_default c =
    let r = c.self.inside in
    let i = c.self.invariant in
    record {
      same_text = refl;
      taken = tt;
      not_taken = (
        refl,
        rw (← ap (λ (z : Standing). z.ahead) c.self.view_is)
            (lacks_name r.source.text.now r.place r.seen i.past i.sees
            (λ b s h. c.in_default.not-Ascii b s)),
      );
    }

pub eat_name_with_r-requires : goal.eat_name_with_r-requires
eat_name_with_r-requires c = λ t is.
    let r = c.self.inside in
    let i = c.self.invariant in
    name_ahead r.source.text.now r.place r.seen 0x72 i.past i.sees
    (c.in-Ascii.is ∙ ap Ascii c.if-first-eq114.true) refl t
    (rw (ap (λ (z : Standing). z.ahead) c.self.view_is) is)

pub returns-then-not-begins_identifier-clause-not_taken : goal.returns-then-not-begins_identifier-clause-not_taken
returns-then-not-begins_identifier-clause-not_taken c =
    let r = c.self.inside in
    let i = c.self.invariant in (
      refl,
      rw (← ap (λ (z : Standing). z.ahead) c.self.view_is)
          (lacks_name r.source.text.now r.place r.seen i.past i.sees (λ b s h.
          let same : Ascii c.in-Ascii.first ≡ Ascii b = sym c.in-Ascii.is ∙ s in
          let byte : c.in-Ascii.first ≡ b = cc in
          true≢false
          (sym h ∙ ap is_identifier_start (sym byte) ∙ sym c.begins_identifier.ensures
          ∙ c.if-not-begins_identifier.true))),
    )

pub invariant_of-self : goal.invariant_of-self
invariant_of-self c =
    let r = c.self.inside in
    let i = c.self.invariant in
    let text = r.source.text.now in
    let next = r.place + 1 in
    let end = c.name-end.result.1 in
    let to = c.past_spaces.result.0 in
    let name = c.name-end.result.0.now in
    let here = rw c.in-Ascii.is at i.sees in
    let byte = here.1.ascii here.0 in
    let class : is_identifier_start (slice_index text r.place) ≡ true = ap is_identifier_start byte
    ∙ sym c.begins_identifier.ensures ∙ c.if-not-begins_identifier.false in
    let named = rw c.look-second.ensures.same at c.name-end.ensures in
    let stands : IsTokenAt text (Ident false name) r.place end = plain_stands text name r.place end class named.order
    named.boundary.0 named.name named.rest named.end
    (λ is. absurd (c.if-first-eq114.false (sym byte ∙ is))) in
    let none = token_no_fault text r.place end (Ident false name) r.seen r.fault r.source.looks r.length i stands in
    let step = ascii_step text r.place i.utf8 here.1.within (omega (arith, byte, here.0)) i.reached in
    let found = rw named.same at c.past_spaces.ensures in
    let looks = c.past_spaces.new.self.looks in
    subst
    (λ t. IsReadingAt t.now to c.past_spaces.result.1 r.fault looks r.length) (sym found.same)
    (reads_on text r.place next end to 9 r.seen c.past_spaces.result.1 r.fault r.source.looks
    c.name-end.new.self.looks looks r.length i none step.1 (omega arith)
    (costs_then text next next end 1 1 8 0 r.source.looks c.look-second.new.self.looks c.name-end.new.self.looks
    c.look-second.ensures.cost named.cost)
    found.cost found.boundary found.sees found.past)

pub returns-clause-taken : goal.returns-clause-taken
returns-clause-taken c =
    let r = c.self.inside in
    let i = c.self.invariant in
    let text = r.source.text.now in
    let end = c.name-end.result.1 in
    let to = c.past_spaces.result.0 in
    let name = c.name-end.result.0.now in
    let here = rw c.in-Ascii.is at i.sees in
    let byte = here.1.ascii here.0 in
    let class : is_identifier_start (slice_index text r.place) ≡ true = ap is_identifier_start byte
    ∙ sym c.begins_identifier.ensures ∙ c.if-not-begins_identifier.false in
    let named = rw c.look-second.ensures.same at c.name-end.ensures in
    let stands : IsTokenAt text (Ident false name) r.place end = plain_stands text name r.place end class named.order
    named.boundary.0 named.name named.rest named.end
    (λ is. absurd (c.if-first-eq114.false (sym byte ∙ is))) in
    let found = rw named.same at c.past_spaces.ensures in
    rw (← ap (λ (z : Standing). z.ahead) c.self.view_is)
    (subst
    (λ z. TakesToken (ahead_at text r.place) (ahead_at z.now to) (Ident false name)) (sym found.same)
    (takes text r.place end to (Ident false name) i.reached.0 stands found.spaces))
