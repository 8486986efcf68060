use Rattle.std.proofs.Common.{sym, ◌∙◌, ap, arith, ℕ, Option, Some, None, MatchOption, ◌++◌}
use Rattle.std.proofs.lemmas.Result.{IfOk-weaker}
use Rattle.cargo_platform.specs.Trees.{Target, Expression}
use Rattle.byte_answers.specs.Flat.{numbers}
use Rattle.byte_answers.proofs.Building.{form_long, form_of_target, form_of_expression}
use Rattle.byte_answers.proofs.truths.is_true.Goals as goal

match_then : {X A B : Type 0} {P Q : X → Type 0} (o : Option X) → MatchOption o A P → (A → B)
    → ((x : X) → P x → Q x) → MatchOption o B Q
match_then None a f g = f a
match_then (Some x) p f g = g x p

pub returns-in_default : goal.returns-in_default
returns-in_default c = λ s means form. omega (arith, form_long c.args.bytes.now form, c.in_default.ensures)

pub returns-then-ending-eq-TARGET : goal.returns-then-ending-eq-TARGET
returns-then-ending-eq-TARGET c = λ s means.
    let e = c.in-Some.ending in
    let whole = c.in-Some.ensures.0 in
    match_then c.is_target.result c.is_target.ensures
    (λ never. form_of_target c.args.bytes.now e.before.now e.a e.b e.tag whole c.if-ending-eq-TARGET.true
    (λ name text same. never name same))
    (λ holds found. (
      Target e.before.now,
      (
        found.0 ∙ ap (λ (t : ℕ). e.before.now ++ numbers e.a e.b t) (sym c.if-ending-eq-TARGET.true) ∙ sym whole,
        found.1,
      ),
    ))

pub returns : goal.returns
returns c =
    let e = c.in-Some.ending in
    IfOk-weaker c.is_true_expression.result _ _ (λ o found s means.
    match_then o (found s means)
    (form_of_expression c.args.bytes.now e.before.now e.a e.b e.tag c.in-Some.ensures.0 c.if-ending-eq-TARGET.false)
    (λ holds tree. (Expression tree.0, tree.1))) c.is_true_expression.ensures
