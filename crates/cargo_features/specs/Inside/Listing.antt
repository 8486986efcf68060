-- The indexes of the rules in which each fact is a premise.
use Rattle.std.specs.Prelude.{◌<◌, ℕ, List, [], map, length, Contains}
use Rattle.std.specs.List.{slice_index_or}
use Rattle.cargo_features.specs.declared.rules_by_premise.Premises.{Premises}
use Rattle.cargo_features.specs.declared.rules.Rule.{Rule}

abbrev pub place_lists : Premises → List (List ℕ)
place_lists premises = map (λ places. places.items) premises.lists.items

-- the index of a rule is listed for a fact, if there is such a fact
abbrev pub IsListed : List (List ℕ) → ℕ → ℕ → Type 0
IsListed lists n i = n < length lists → Contains (slice_index_or lists n []) i

-- the rule is listed for its premises
abbrev pub IsPlaced : List (List ℕ) → ℕ → Rule → Type 0
IsPlaced lists i rule = IsListed lists rule.first i × IsListed lists rule.second i

-- each rule is listed for its premises
abbrev pub AreListed : List Rule → List (List ℕ) → Type 0
AreListed rules lists = (i : ℕ) → i < length rules → (d : Rule) → IsPlaced lists i (slice_index_or rules i d)
