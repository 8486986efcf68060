use Rattle.std.proofs.Common.{sym, ◌∙◌, ap, arith, ℕ, Option, Some, None, MatchOption, ◌++◌}
use Rattle.std.proofs.lemmas.Result.{IfOk-weaker}
use Rattle.byte_answers.specs.Flat.{numbers}
use Rattle.byte_answers.proofs.Building.{form_long, form_of_target, form_of_expression}
use Rattle.byte_answers.proofs.unflat.unflat.Goals as goal

pub returns-in_default : goal.returns-in_default
returns-in_default c = λ form. omega (arith, form_long c.args.bytes.now form, c.in_default.ensures)

match_then : {X A B : Type 0} {P Q : X → Type 0} (o : Option X) → MatchOption o A P → (A → B)
    → ((x : X) → P x → Q x) → MatchOption o B Q
match_then None a f g = f a
match_then (Some x) p f g = g x p

pub returns-then-ending-eq-TARGET : goal.returns-then-ending-eq-TARGET
returns-then-ending-eq-TARGET c =
    let e = c.in-Some.ending in
    let whole = c.in-Some.ensures.0 in
    IfOk-weaker c.target_of.result _ _ (λ o found.
    match_then o found (form_of_target c.args.bytes.now e.before.now e.a e.b e.tag whole c.if-ending-eq-TARGET.true)
    (λ p is. is ∙ ap (λ (t : ℕ). e.before.now ++ numbers e.a e.b t) (sym c.if-ending-eq-TARGET.true) ∙ sym whole))
    c.target_of.ensures

pub returns-in-None : goal.returns-in-None
returns-in-None c =
    let e = c.in-Some.ending in
    form_of_expression c.args.bytes.now e.before.now e.a e.b e.tag c.in-Some.ensures.0 c.if-ending-eq-TARGET.false
    (rw c.in-None.is at c.in_ok-e.ensures)
