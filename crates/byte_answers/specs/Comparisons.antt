-- The answers on relations of two conditions, over every set of facts that rustc's rules allow.
use Rattle.std.specs.Prelude.{◌≡◌, ℕ, Bool, true, false, ◌↔◌, List, [], ◌∷◌, ◌++◌, Option, Some, None, map}
use Rattle.std.specs.Prelude.{String, string_bytes}
use Rattle.std.specs.declared.alloc.Global.{Global}
use Rattle.cargo_platform.specs.Trees.{Condition, value_of, tree_of}
use Rattle.cargo_platform.specs.Platforms.{IsConditionText}
use Rattle.cargo_platform.specs.Facts.{IsTrueCondition, FactSet, truth}
use Rattle.partial_facts.specs.declared.one_valued.TheConstants.{ONE_VALUED}
use Rattle.exact_answers.specs.declared.fact_constraints.FactConstraints.{FactConstraints}
use Rattle.exact_answers.specs.declared.platforms.PossibleTarget.{PossibleTarget}
use Rattle.exact_answers.specs.Asking.{NeedsMore}
use Rattle.exact_answers.specs.Families.{KeepsFamilyRule}
use Rattle.exact_answers.specs.Targets.{ForEach, IsExample, asked_trees}
use Rattle.byte_answers.specs.declared.outcome.Outcome.{Outcome}
use Rattle.byte_answers.specs.declared.relations.Relation.{Relation}
use Rattle.byte_answers.specs.declared.relations.Relation.TheVariants.{Implies, Equivalent, Excludes}
use Rattle.byte_answers.specs.LengthPrefixed.{with_length, facts_with_lengths}
use Rattle.byte_answers.specs.Outcomes.{IsWritten}

-- no fact is known, and the possible sets keep rustc's rules: one value for the keys that have one, and families
pub record KnowsOnlyRules (k : FactConstraints) : Type 0 where
  pub facts : k.facts.now ≡ []
  pub complete : k.complete.now ≡ []
  pub single : map (λ t. t.now) k.single.now ≡ map (λ t. t.now) ONE_VALUED.now
  pub families : (s : FactSet) → (truth s (tree_of k.assumed.now) ≡ true) ↔ KeepsFamilyRule s

-- the relation of two conditions, if the one is true as A says, and the other as B says
abbrev pub Stands : Relation → Type 0 → Type 0 → Type 0
Stands Implies A B = A → B
Stands Equivalent A B = A ↔ B
Stands Excludes A B = A → B → ⊥

-- the failure of the relation
abbrev pub Fails : Relation → Type 0 → Type 0 → Type 0
Fails Implies A B = A × (B → ⊥)
Fails Equivalent A B = (A ↔ B) → ⊥
Fails Excludes A B = A × B

-- a name preceded by its length, if there is one
abbrev pub name_with_length : Option (String Global) → List ℕ
name_with_length None = []
name_with_length (Some name) = with_length (string_bytes name)

abbrev pub has_name : Option (String Global) → Bool
has_name None = false
has_name (Some name) = true

-- the example is written to the buffer: its name, if it has one, and its facts, each preceded by its length
abbrev pub IsWrittenExample : PossibleTarget → Outcome → List ℕ → List ℕ → Type 0
IsWrittenExample t o old new =
    (o.is_named ≡ has_name t.name)
    × IsWritten (name_with_length t.name ++ facts_with_lengths (map value_of t.facts.items)) o.needed old new

-- P holds for a target that is possible, and that is written to the buffer
abbrev pub HasExample : FactConstraints → List Condition → (List ℕ → FactSet → Type 0) → Outcome → List ℕ → List ℕ
    → Type 0
HasExample k cs P o old new = (t : PossibleTarget) × (IsExample t k cs P × IsWrittenExample t o old new)

-- the budget is too small for a search on these conditions
abbrev pub NeedsLarger : List Condition → ℕ → Type 0
NeedsLarger cs budget = (k : FactConstraints) × (KnowsOnlyRules k × NeedsMore k (asked_trees cs) budget)

-- for two conditions: yes means that it is so on each possible target, and no has a counterexample
abbrev pub SaysRelated : Relation → Condition → Condition → Outcome → List ℕ → List ℕ → Type 0
SaysRelated r p q o old new =
    (k : FactConstraints) × (KnowsOnlyRules k
    × (o.holds ≡ true → ForEach k (λ name s. Stands r (IsTrueCondition name s p) (IsTrueCondition name s q)))
    × (o.holds ≡ false
    → HasExample k (p ∷ q ∷ []) (λ name s. Fails r (IsTrueCondition name s p) (IsTrueCondition name s q)) o old new))

-- the same for keys
abbrev pub AreRelated : Relation → List ℕ → List ℕ → Outcome → List ℕ → List ℕ → Type 0
AreRelated r a b o old new =
    (p q : Condition) × (IsConditionText a p × IsConditionText b q × SaysRelated r p q o old new)

-- for one condition: yes has an example, and no means that it is so on each possible target
abbrev pub SaysPossible : Condition → Outcome → List ℕ → List ℕ → Type 0
SaysPossible p o old new =
    (k : FactConstraints) × (KnowsOnlyRules k
    × (o.holds ≡ true → HasExample k (p ∷ []) (λ name s. IsTrueCondition name s p) o old new)
    × (o.holds ≡ false → ForEach k (λ name s. IsTrueCondition name s p → ⊥)))

-- the same for a key
abbrev pub IsPossibleKey : List ℕ → Outcome → List ℕ → List ℕ → Type 0
IsPossibleKey key o old new = (p : Condition) × (IsConditionText key p × SaysPossible p o old new)

-- the budget is too small to compare two keys, or to decide one
abbrev pub AreUndecided : List ℕ → List ℕ → ℕ → Type 0
AreUndecided a b budget =
    (p q : Condition) × (IsConditionText a p × IsConditionText b q × NeedsLarger (p ∷ q ∷ []) budget)

abbrev pub IsUndecided : List ℕ → ℕ → Type 0
IsUndecided key budget = (p : Condition) × (IsConditionText key p × NeedsLarger (p ∷ []) budget)
