-- Classes of known targets.
use Rattle.std.specs.Prelude.{◌≡◌, ◌<◌, ◌↔◌, ℕ, false, IsTrue, List, All}
use Rattle.std.specs.List.{count_by}
use Rattle.known_targets.specs.Sets.{is_member}
use Rattle.known_targets.specs.declared.table.TheConstants.{COUNT}
use Rattle.known_targets.specs.declared.target_set.TargetSet.{TargetSet}

-- each of the sets has both targets or neither
abbrev pub AreAlike : List TargetSet → ℕ → ℕ → Type 0
AreAlike sets j k = All (λ set. is_member set j ≡ is_member set k) sets

-- no target is in the set
abbrev pub IsEmpty : TargetSet → Type 0
IsEmpty set = (k : ℕ) → k < COUNT → is_member set k ≡ false

-- in how many of these the target is
abbrev pub times_in : List TargetSet → ℕ → ℕ
times_in sets k = count_by (λ set. is_member set k) sets

-- beside each of its targets it has those that are alike, and no other
abbrev pub IsClass : List TargetSet → TargetSet → Type 0
IsClass sets class =
    (j k : ℕ) → j < COUNT → k < COUNT → IsTrue (is_member class j) → IsTrue (is_member class k) ↔ AreAlike sets j k

-- each target is in one of the classes alone, and each class has a target
pub record AreClasses (sets classes : List TargetSet) : Type 0 where
  pub covering : (k : ℕ) → k < COUNT → times_in classes k ≡ 1
  pub some : All (λ class. IsEmpty class → ⊥) classes
  pub each : All (λ class. IsClass sets class) classes
