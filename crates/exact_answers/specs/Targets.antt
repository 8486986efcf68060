-- Conditions over possible targets. A target has one name, and facts, of which the name says nothing.
use Rattle.std.specs.Prelude.{◌≡◌, ℕ, List, [], ◌∷◌, Option, Some, None, String, map, string_bytes}
use Rattle.std.specs.declared.alloc.Global.{Global}
use Rattle.cargo_platform.specs.Trees.{Tree, True, Trees, none, tree, Condition, Target, Expression, value_of}
use Rattle.cargo_platform.specs.Facts.{FactSet}
use Rattle.exact_answers.specs.Asking.{NeedsMore}
use Rattle.exact_answers.specs.Answers.{AreExample, OverEach}
use Rattle.exact_answers.specs.declared.fact_constraints.FactConstraints.{FactConstraints}
use Rattle.exact_answers.specs.declared.platforms.PossibleTarget.{PossibleTarget}
use Rattle.exact_answers.specs.declared.platforms.Satisfiability.{Satisfiability}
use Rattle.exact_answers.specs.declared.platforms.Satisfiability.TheVariants as can
use Rattle.exact_answers.specs.declared.platforms.Validity.{Validity}
use Rattle.exact_answers.specs.declared.platforms.Validity.TheVariants as must

-- a name that the conditions do not name
abbrev pub IsOtherName : List Condition → List ℕ → Type 0
IsOtherName [] name = Unit {0}
IsOtherName (Target own ∷ cs) name = (own ≡ name → ⊥) × IsOtherName cs name
IsOtherName (Expression e ∷ cs) name = IsOtherName cs name

-- the names that an example of a target may have: its own, or where it has none each that the conditions do not name
abbrev pub MayHaveName : Option (String Global) → List Condition → List ℕ → Type 0
MayHaveName (Some own) cs name = name ≡ string_bytes own
MayHaveName None cs name = IsOtherName cs name

-- a name asks for no pair
abbrev pub asked_tree : Condition → Tree
asked_tree (Target own) = True
asked_tree (Expression e) = e

abbrev pub asked_trees : List Condition → Trees
asked_trees [] = none
asked_trees (c ∷ cs) = tree (asked_tree c) (asked_trees cs)

-- an example of a target on the conditions cs: P holds for it by each name that it may have
abbrev pub IsExample : PossibleTarget → FactConstraints → List Condition → (List ℕ → FactSet → Type 0) → Type 0
IsExample t k cs P =
    AreExample k (asked_trees cs) (λ s. (name : List ℕ) → MayHaveName t.name cs name → P name s)
    (map value_of t.facts.items)

-- Q holds for each possible target: by each name, over each possible set
abbrev pub ForEach : FactConstraints → (List ℕ → FactSet → Type 0) → Type 0
ForEach k Q = (name : List ℕ) → OverEach k (λ s. Q name s)

-- an answer on the conditions cs: P holds for the example; where there is none, Q holds for each possible target; or
-- the budget is too small
abbrev pub SaysSatisfiability : Satisfiability → FactConstraints → List Condition → ℕ → (List ℕ → FactSet → Type 0)
    → (List ℕ → FactSet → Type 0) → Type 0
SaysSatisfiability (can.Yes t) k cs budget P Q = IsExample t k cs P
SaysSatisfiability can.No k cs budget P Q = ForEach k Q
SaysSatisfiability can.Undecided k cs budget P Q = NeedsMore k (asked_trees cs) budget

-- an answer on the conditions cs: P holds for the counterexample; where there is none, Q holds for each possible
-- target; or the budget is too small
abbrev pub SaysValidity : Validity → FactConstraints → List Condition → ℕ → (List ℕ → FactSet → Type 0)
    → (List ℕ → FactSet → Type 0) → Type 0
SaysValidity must.Yes k cs budget P Q = ForEach k Q
SaysValidity (must.No t) k cs budget P Q = IsExample t k cs P
SaysValidity must.Undecided k cs budget P Q = NeedsMore k (asked_trees cs) budget
