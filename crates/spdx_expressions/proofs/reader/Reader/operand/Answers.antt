use Rattle.std.proofs.Common.{◌≡◌, ◌∙◌, ◌+◌, sym, ap, refl, arith}
use Rattle.spdx_expressions.specs.declared.error.Expected.TheVariants as expected
use Rattle.spdx_expressions.specs.Tokens.{placed, lexeme, LeftBracket}
use Rattle.spdx_expressions.specs.Trees.{pieces}
use Rattle.spdx_expressions.specs.Inside.Reading.{Wants, at, left, operand}
use Rattle.spdx_expressions.proofs.Steps.{reach_by, by_true, stopped, no_token, wants, is_false}
use Rattle.spdx_expressions.proofs.reader.Reader.operand.Goals as goal

pub returns-then-is_open-clause-reading : goal.returns-then-is_open-clause-reading
returns-then-is_open-clause-reading c =
    let self = c.args.self.now in
    let old = c.requires.reading in
    let is = wants self c.requires.wanted old in
    let is_open : lexeme c.in-Some.token.token ≡ LeftBracket = c.is_open.ensures.0 c.if-is_open.true in
    let to : operand self.depth (pieces self.parts.items) (lexeme c.in-Some.token.token)
    ≡ at Wants (self.depth + 1) (pieces c.push.new.parts.items) =
    ap (operand self.depth (pieces self.parts.items)) is_open
    ∙ ap (at Wants (self.depth + 1)) (sym c.in_ok-push.ensures) in (
      c.in-Some.ensures.boundary,
      omega (arith, c.in-Some.ensures.order, old.1),
      record { mode = Wants; depth = self.depth + 1; parts = pieces c.push.new.parts.items },
      reach_by self.text.now (left self.text.now self.place) (placed c.in-Some.token)
          (left self.text.now c.in-Some.token.end) _ _ is c.in-Some.ensures.next to,
      by_true self.wanted _ _ c.requires.wanted refl,
    )

pub licence-requires-clause-reached : goal.licence-requires-clause-reached
licence-requires-clause-reached c =
    let self = c.args.self.now in
    let is = wants self c.requires.wanted c.requires.reading in
    reach_by self.text.now (left self.text.now self.place) (placed c.in-Some.token)
    (left self.text.now c.in-Some.token.end) _ _ is c.in-Some.ensures.next
    (c.in-Some-name_in.ensures self.depth (pieces self.parts.items))

pub returns-in-None-clause-refused : goal.returns-in-None-clause-refused
returns-in-None-clause-refused c =
    let self = c.args.self.now in
    let is = wants self c.requires.wanted c.requires.reading in
    let some = c.in-Some.ensures.next in
    let not_open : lexeme c.in-Some.token.token ≡ LeftBracket → ⊥ = λ bracket. is_false _
    (c.is_open.ensures.1 bracket) c.if-is_open.false in
    stopped self.text.now _ (left self.text.now self.place) expected.Licence c.refuse-in-None.result is
    (no_token (record { mode = Wants; depth = self.depth; parts = pieces self.parts.items })
    (left self.text.now self.place) (placed c.in-Some.token)
    (left self.text.now c.in-Some.token.end) some (c.in-None.ensures not_open self.depth (pieces self.parts.items)))
    refl (c.refuse-in-None.ensures _ (_, some))
