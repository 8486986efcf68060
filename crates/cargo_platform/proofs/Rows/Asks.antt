-- The number of queries that decide some expressions.
use Rattle.std.proofs.Common.{◌≡◌, refl, true, false, [], ◌∷◌, codes}
use Rattle.cargo_platform.specs.Trees.{Tree, Alone, Not, All, Any, Value, True, False, none, trees_of, Target}
use Rattle.cargo_platform.specs.Facts.{FactSet, truth}
use Rattle.cargo_platform.specs.Asks.{asks, asks_of_condition}
use Rattle.cargo_platform.proofs.Rows.Trees.{name}

abbrev foo : Tree
foo = Value (Alone (name (codes "foo")))

-- one for a name, negated or not, and none for a literal
one_name : (facts : FactSet) → (asks facts foo ≡ 1) × (asks facts (Not (Not foo)) ≡ 1) × (asks facts True ≡ 0)
one_name facts = (refl, refl, refl)

empty_groups : (facts : FactSet) → (asks facts (All none) ≡ 0) × (asks facts (Any none) ≡ 0)
empty_groups facts = (refl, refl)

-- the first false member decides an `all`, and the first true one an `any`
settled : (facts : FactSet)
    → (asks facts (All (trees_of (True ∷ False ∷ foo ∷ []))) ≡ 0)
    × (asks facts (Any (trees_of (False ∷ Not False ∷ foo ∷ []))) ≡ 0)
settled facts = (refl, refl)

-- a name that is false decides an `all` but no `any`
false_name : (facts : FactSet) → truth facts foo ≡ false
    → (asks facts (All (trees_of (foo ∷ foo ∷ []))) ≡ 1) × (asks facts (Any (trees_of (foo ∷ foo ∷ []))) ≡ 2)
false_name facts p = (rw p refl, rw p refl)

-- and one that is true an `any` but no `all`
true_name : (facts : FactSet) → truth facts foo ≡ true
    → (asks facts (All (trees_of (foo ∷ foo ∷ []))) ≡ 2) × (asks facts (Any (trees_of (foo ∷ foo ∷ []))) ≡ 1)
true_name facts p = (rw p refl, rw p refl)

-- after a group inside it that is decided, a group goes on
inner_group : (facts : FactSet) → truth facts foo ≡ false
    → asks facts (Any (trees_of (All (trees_of (foo ∷ foo ∷ [])) ∷ Not foo ∷ foo ∷ []))) ≡ 2
inner_group facts p = rw p refl

target_name : (facts : FactSet) → asks_of_condition facts (Target (codes "x86")) ≡ 0
target_name facts = refl
