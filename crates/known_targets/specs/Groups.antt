-- The truth of an expression at a known target, where what is not known is taken as a truth.
use Rattle.std.specs.Prelude.{◌≡◌, ℕ, ◌<◌, Bool, true, false, ◌&&◌, ◌||◌, Option, List}
use Rattle.cargo_platform.specs.Trees.{Tree}
use Rattle.cargo_platform.specs.Facts.{Pair, fact_set}
use Rattle.partial_facts.specs.Kleene.{kleene}
use Rattle.known_targets.specs.Bits.{has}
use Rattle.known_targets.specs.Rows.{Keys, facts_in}
use Rattle.known_targets.specs.Open.{open_told, taken_as}
use Rattle.known_targets.specs.declared.table.TheConstants.{COUNT}
use Rattle.known_targets.specs.declared.target_set.TargetSet.{TargetSet}
use Rattle.known_targets.specs.declared.walk.Bounds.{Bounds}

-- what is known of the facts of the target k
abbrev pub told_in : ℕ → Keys → List (List ℕ) → Pair → Option Bool
told_in k keys open_keys = open_told (fact_set (facts_in k keys)) open_keys

-- the truth of an expression, where what is not known is taken as u
abbrev pub taken : Bool → (Pair → Option Bool) → Tree → Bool
taken u told e = taken_as u (kleene told e)

-- both kinds of group, by the truth after which they go on
abbrev pub both : Bool → Bool → Bool → Bool
both true a b = a && b
both false a b = a || b

-- the set has the targets at which the expression is so true
abbrev pub IsTrueAt : Keys → List (List ℕ) → Bool → Tree → TargetSet → Type 0
IsTrueAt keys open_keys u e set =
    (k : ℕ) → k < COUNT → has set.words k ≡ taken u (told_in k keys open_keys) e

-- those at which it holds for certain, and those at which it may hold
pub record AreBounds (keys : Keys) (open_keys : List (List ℕ)) (e : Tree) (bounds : Bounds) : Type 0 where
  pub certain : IsTrueAt keys open_keys false e bounds.certain
  pub possible : IsTrueAt keys open_keys true e bounds.possible
