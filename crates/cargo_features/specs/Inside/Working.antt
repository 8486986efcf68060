-- Invariants of the application of rules.
use Rattle.std.specs.Prelude.{◌≡◌, ◌<◌, ℕ, true, List, length}
use Rattle.std.specs.List.{slice_index_or}
use Rattle.known_targets.specs.Sets.{is_member}
use Rattle.known_targets.specs.declared.target_set.TargetSet.{TargetSet}
use Rattle.known_targets.specs.declared.table.TheConstants.{COUNT}
use Rattle.package_graphs.specs.Graphs.{is_in}
use Rattle.cargo_features.specs.Derivations.{IsDerived}
use Rattle.cargo_features.specs.declared.rules.Rule.{Rule}

-- the set of a fact has the targets that it had
abbrev pub IsAsBefore : List TargetSet → List TargetSet → ℕ → Type 0
IsAsBefore before now n = (k : ℕ) → k < COUNT → is_in now n k ≡ is_in before n k

-- each member of the sets is derived
abbrev pub AreSound : List TargetSet → List Rule → List TargetSet → Type 0
AreSound given rules sets = (n k : ℕ) → k < COUNT → is_in sets n k ≡ true → IsDerived given rules k n

-- if a rule applies and both premises are done, the fact that follows has the target
abbrev pub IsApplied : List TargetSet → List TargetSet → Rule → Type 0
IsApplied done sets rule = (k : ℕ) → k < COUNT → rule.to < length sets → is_in done rule.first k ≡ true
    → is_in done rule.second k ≡ true → is_member rule.holds k ≡ true → is_in sets rule.to k ≡ true

-- the first `many` of the rules at these indexes are applied
abbrev pub AreApplied : List Rule → List TargetSet → List TargetSet → List ℕ → ℕ → Type 0
AreApplied rules done sets places many = (j : ℕ) → j < many → j < length places → (d : Rule)
    → slice_index_or places j 0 < length rules
    → IsApplied done sets (slice_index_or rules (slice_index_or places j 0) d)
