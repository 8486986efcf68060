-- Parts of classes, inside and outside a set.
use Rattle.std.specs.Prelude.{◌≡◌, ◌<◌, ◌⊎◌, ◌+◌, ◌++◌, ℕ, Bool, not, ◌&&◌, cond, List, [], ◌∷◌, take, All}
use Rattle.std.specs.Prelude.{Contains}
use Rattle.std.specs.List.{Any}
use Rattle.known_targets.specs.Sets.{is_member}
use Rattle.known_targets.specs.declared.table.TheConstants.{COUNT}
use Rattle.known_targets.specs.declared.target_set.TargetSet.{TargetSet}
use Rattle.known_targets.specs.Classes.{IsEmpty, times_in}

-- the targets of the class that are inside the set, or those outside, where there are any
pub record IsPart (set class part : TargetSet) : Type 0 where
  pub is_inside : Bool
  pub members : (k : ℕ) → k < COUNT
      → is_member part k ≡ (is_member class k && cond is_inside (is_member set k) (not (is_member set k)))
  pub some : IsEmpty part → ⊥

abbrev pub IsPartOfOne : TargetSet → List TargetSet → TargetSet → Type 0
IsPartOfOne set classes part = Any (λ class. IsPart set class part) classes

-- the part is added, or has no target
abbrev pub AddsPart : List TargetSet → List TargetSet → TargetSet → Type 0
AddsPart old new part = ((new ≡ old ++ part ∷ []) × (IsEmpty part → ⊥)) ⊎ ((new ≡ old) × IsEmpty part)

-- both parts of the class are added
pub record AddsParts (set class : TargetSet) (old new : List TargetSet) : Type 0 where
  pub counted : (k : ℕ) → k < COUNT → times_in new k ≡ times_in old k + cond (is_member class k) 1 0
  pub sound : (classes : List TargetSet) → Contains classes class → All (λ part. IsPartOfOne set classes part) old
      → All (λ part. IsPartOfOne set classes part) new

-- each target is as often in the parts as in the first n classes
pub record ArePartsSoFar (set : TargetSet) (classes parts : List TargetSet) (n : ℕ) : Type 0 where
  pub sound : All (λ part. IsPartOfOne set classes part) parts
  pub counted : (k : ℕ) → k < COUNT → times_in parts k ≡ times_in (take n classes) k

pub record AreParts (set : TargetSet) (classes parts : List TargetSet) : Type 0 where
  pub sound : All (λ part. IsPartOfOne set classes part) parts
  pub counted : (k : ℕ) → k < COUNT → times_in parts k ≡ times_in classes k
