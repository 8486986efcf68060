-- Conditions that are one key of a map.
use Rattle.std.proofs.Common.{◌≡◌, ◌∙◌, refl, sym, ap, Bool, true, false, cond, Option}
use Rattle.std.specs.Prelude.{IsTrue, ◌↔◌}
use Rattle.std.specs.declared.cmp.Ordering.{Ordering}
use Rattle.std.specs.declared.cmp.Ordering.TheVariants.{Less, Equal, Greater}
use Rattle.std.specs.Ordering.{is_eq}

tied : (o : Ordering) → is_eq o ≡ true → o ≡ Equal
tied Less h = absurd cc
tied Equal h = refl
tied Greater h = absurd cc

-- what is equal by an order is what it ties
pub told_by_order : {P : Type 0} (answer : Bool) (o : Ordering) → answer ≡ is_eq o → (o ≡ Equal) ↔ P → IsTrue answer ↔ P
told_by_order answer o is law = ((λ yes. law.0 (tied o (sym is ∙ yes))), λ p. is ∙ ap is_eq (law.1 p))

-- the value at a tied key is the one that was put there
pub put_there : {X : Type 0} (o : Ordering) (put kept found : Option X) → o ≡ Equal → found ≡ cond (is_eq o) put kept
    → found ≡ put
put_there o put kept found same is = is ∙ ap (λ x. cond (is_eq x) put kept) same

-- and at one that is not tied the value that was kept
pub kept_there : {X : Type 0} (o : Ordering) (put kept found : Option X) → (o ≡ Equal → ⊥)
    → found ≡ cond (is_eq o) put kept → found ≡ kept
kept_there Less put kept found apart is = is
kept_there Equal put kept found apart is = absurd (apart refl)
kept_there Greater put kept found apart is = is
