use Rattle.std.proofs.Common.{◌≡◌, ◌∙◌, ℕ, ◌-◌, sym, ap, refl, arith}
use Rattle.spdx_expressions.specs.declared.error.Expected.TheVariants as expected
use Rattle.spdx_expressions.specs.Tokens.{placed, lexeme, RightBracket}
use Rattle.spdx_expressions.specs.Trees.{pieces}
use Rattle.spdx_expressions.specs.Faults.{expected_behind}
use Rattle.spdx_expressions.specs.Inside.Reading.{Wants, Behind, at, left, behind}
use Rattle.spdx_expressions.proofs.Steps.{ended, stopped_at_end, stopped_at_token, reach_behind, by_false}
use Rattle.spdx_expressions.proofs.Steps.{is_false}
use Rattle.spdx_expressions.proofs.Steps.{close_step, open_expected, is_behind}
use Rattle.spdx_expressions.proofs.reader.Reader.behind.Goals as goal

pub returns-in_default-clause-refused : goal.returns-in_default-clause-refused
returns-in_default-clause-refused c =
    let self = c.args.self.now in
    let b = ended self c.requires.wanted c.requires.reading in
    stopped_at_end self c.refuse.result b c.in_default.ensures.next c.if-self-eq0.false
    (c.refuse.ensures _ c.in_default.ensures.next)

pub returns-in-Some-operator_in-clause-reading : goal.returns-in-Some-operator_in-clause-reading
returns-in-Some-operator_in-clause-reading c = λ yes.
    let self = c.args.self.now in
    let b = ended self c.requires.wanted c.requires.reading in
    let to : behind self.depth (pieces self.parts.items) (lexeme c.in-Some.token.token)
    ≡ at Wants self.depth (pieces c.push.new.parts.items) =
    c.in-Some-operator_in.ensures self.depth (pieces self.parts.items)
    ∙ ap (at Wants self.depth) (sym c.in_ok-push.ensures) in (
      c.in-Some.ensures.boundary,
      omega (arith, c.in-Some.ensures.order, c.requires.reading.1),
      record { mode = Wants; depth = self.depth; parts = pieces c.push.new.parts.items },
      reach_behind self (placed c.in-Some.token) (left self.text.now c.in-Some.token.end) _ b c.in-Some.ensures.next to,
      refl,
    )

pub returns-then-self-eq0-2-clause-refused : goal.returns-then-self-eq0-2-clause-refused
returns-then-self-eq0-2-clause-refused c =
    let self = c.args.self.now in
    let b = ended self c.requires.wanted c.requires.reading in
    let some = c.in-Some.ensures.next in
    stopped_at_token self c.refuse-then-self-eq0-2.result (placed c.in-Some.token) _ expected.Operator b some
    (ap (λ (n : ℕ). behind n (pieces self.parts.items) (lexeme c.in-Some.token.token)) c.if-self-eq0-2.true
    ∙ c.in_default-operator_in.ensures.flat (pieces self.parts.items))
    (ap expected_behind c.if-self-eq0-2.true) (c.refuse-then-self-eq0-2.ensures _ (_, some))

pub returns-then-not-is_close-clause-refused : goal.returns-then-not-is_close-clause-refused
returns-then-not-is_close-clause-refused c =
    let self = c.args.self.now in
    let b = ended self c.requires.wanted c.requires.reading in
    let some = c.in-Some.ensures.next in
    let other : lexeme c.in-Some.token.token ≡ RightBracket → ⊥ =
    λ bracket. is_false _ (c.is_close.ensures.1 bracket) c.if-not-is_close.true in
    stopped_at_token self c.refuse-then-not-is_close.result (placed c.in-Some.token) _ expected.OperatorOrClose b some
    (c.in_default-operator_in.ensures.nested other self.depth (pieces self.parts.items))
    (open_expected self.depth c.if-self-eq0-2.false) (c.refuse-then-not-is_close.ensures _ (_, some))

pub returns-clause-reading : goal.returns-clause-reading
returns-clause-reading c = λ yes.
    let self = c.args.self.now in
    let b = ended self c.requires.wanted c.requires.reading in
    let bracket : lexeme c.in-Some.token.token ≡ RightBracket = c.is_close.ensures.0 c.if-not-is_close.false in
    let to : behind self.depth (pieces self.parts.items) (lexeme c.in-Some.token.token)
    ≡ at Behind (self.depth - 1) (pieces c.push-2.new.parts.items) =
    ap (behind self.depth (pieces self.parts.items)) bracket
    ∙ close_step self.depth (pieces self.parts.items) c.if-self-eq0-2.false
    ∙ ap (at Behind (self.depth - 1)) (sym c.in_ok-push-2.ensures) in (
      c.in-Some.ensures.boundary,
      omega (arith, c.in-Some.ensures.order, c.requires.reading.1),
      record { mode = Behind; depth = self.depth - 1; parts = pieces c.push-2.new.parts.items },
      reach_behind self (placed c.in-Some.token) (left self.text.now c.in-Some.token.end) _ b c.in-Some.ensures.next to,
      by_false self.wanted _ _ c.requires.wanted (is_behind _ _ _),
    )
