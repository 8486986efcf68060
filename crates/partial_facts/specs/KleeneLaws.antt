-- Laws of truth and of residuals, as more becomes known.
use Rattle.std.specs.Prelude.{◌≡◌, ℕ, List, Bool, Option, Some}
use Rattle.cargo_platform.specs.Facts.{Pair}

-- the second decides everything that the first decides, in the same way
abbrev pub TellsMore : (Pair → Option Bool) → (Pair → Option Bool) → Type 0
TellsMore told more = (p : Pair) (b : Bool) → told p ≡ Some b → more p ≡ Some b

-- if the name of the target is known, it stays known
abbrev pub LearnsName : Option (List ℕ) → Option (List ℕ) → Type 0
LearnsName name more = (n : List ℕ) → name ≡ Some n → more ≡ Some n
