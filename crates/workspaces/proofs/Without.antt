-- One thing without another.
use Rattle.std.proofs.Common.{Bool, false, ◌≡◌}
use Rattle.std.proofs.lemmas.Bool.{false≢true, iff_false}
use Rattle.std.specs.Prelude.{◌↔◌, IsTrue}

pub without : {A B : Type 0} (a b r : Bool) → IsTrue a ↔ A → IsTrue b ↔ B → IsTrue r ↔ IsTrue a × (IsTrue b → ⊥)
    → IsTrue r ↔ A × (B → ⊥)
without a b r first second is = (
  λ h. let k = is.0 h in (first.0 k.0, λ other. k.1 (second.1 other)),
  λ h. is.1 (first.1 h.0, λ other. h.1 (second.0 other)),
)

-- one thing does not hold, and so it does not without another
pub neither : {A B : Type 0} (a : Bool) → IsTrue a ↔ A → a ≡ false → IsTrue false ↔ A × (B → ⊥)
neither a first isnt = (λ h. absurd (false≢true h), λ h. absurd (iff_false first isnt h.0))
