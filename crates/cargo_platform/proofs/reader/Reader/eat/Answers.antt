use Rattle.std.proofs.Common.{◌≡◌, refl, sym, ap, subst, ◌∙◌, ◌+◌, ℕ, List, ◌++◌, arith}
use Rattle.cargo_platform.specs.Tokens.{Lexeme, written}
use Rattle.cargo_platform.specs.Inside.Ahead.{Standing}
use Rattle.cargo_platform.specs.Inside.Looking.{IsReadingAt}
use Rattle.cargo_platform.specs.Inside.Parsing.{TakesToken, lexeme_of}
use Rattle.cargo_platform.proofs.OneCut.{head_of}
use Rattle.cargo_platform.proofs.Looking.{ascii_step}
use Rattle.cargo_platform.proofs.Coming.{ahead_at, lacks, punctuation_stands, token_no_fault, reads_on, takes}
use Rattle.cargo_platform.proofs.reader.Reader.eat.Goals as goal

pub returns-then-not-is_byte-clause-not_taken : goal.returns-then-not-is_byte-clause-not_taken
returns-then-not-is_byte-clause-not_taken c = λ _.
    let r = c.self.inside in
    let i = c.self.invariant in
    let P : Lexeme → Type 0 = λ t. t ≡ lexeme_of c.args.wanted in (
      refl,
      rw (← ap (λ (z : Standing). z.ahead) c.self.view_is)
          (lacks P r.source.text.now r.place r.seen i.past i.sees (λ t b bs rest p w e s.
          let first : c.byte_of.result ≡ b = head_of
          (sym (ap (λ (z : Lexeme). written z ++ rest) p ∙ ap (λ (z : List ℕ). z ++ rest) c.byte_of.ensures) ∙ e) in
          c.is_byte.ensures.no c.if-not-is_byte.true (rw first s))),
    )

pub invariant_of-self : goal.invariant_of-self
invariant_of-self c =
    let r = c.self.inside in
    let i = c.self.invariant in
    let text = r.source.text.now in
    let end = r.place + 1 in
    let here = rw (c.is_byte.ensures.yes c.if-not-is_byte.false) at i.sees in
    let stands = punctuation_stands text r.place c.byte_of.result c.args.wanted c.byte_of.ensures here.1 here.0 in
    let none = token_no_fault text r.place end (lexeme_of c.args.wanted) r.seen r.fault r.source.looks r.length i stands
    in
    let step = ascii_step text r.place i.utf8 here.1.within (omega (arith, here.1.ascii here.0, here.0)) i.reached in
    let found = rw c.look-behind.ensures.same at c.past_spaces.ensures in
    subst
    (λ t. IsReadingAt t.now c.past_spaces.result.0 c.past_spaces.result.1
    r.fault c.past_spaces.new.self.looks r.length)
    (sym found.same)
    (reads_on text r.place end end c.past_spaces.result.0 1 r.seen c.past_spaces.result.1 r.fault
    r.source.looks c.look-behind.new.self.looks c.past_spaces.new.self.looks r.length i none step.1 (omega arith)
    c.look-behind.ensures.cost found.cost found.boundary found.sees found.past)

pub returns-clause-taken : goal.returns-clause-taken
returns-clause-taken c = λ _.
    let r = c.self.inside in
    let i = c.self.invariant in
    let text = r.source.text.now in
    let to = c.past_spaces.result.0 in
    let t = lexeme_of c.args.wanted in
    let here = rw (c.is_byte.ensures.yes c.if-not-is_byte.false) at i.sees in
    let stands = punctuation_stands text r.place c.byte_of.result c.args.wanted c.byte_of.ensures here.1 here.0 in
    let found = rw c.look-behind.ensures.same at c.past_spaces.ensures in
    rw (← ap (λ (z : Standing). z.ahead) c.self.view_is)
    (subst
    (λ z. TakesToken (ahead_at text r.place) (ahead_at z.now to) t) (sym found.same)
    (takes text r.place (r.place + 1) to t i.reached.0 stands found.spaces))
