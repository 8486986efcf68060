-- Expressions with the truths that are wanted of them, the sets of facts that are asked about, and what is found.
use Rattle.std.specs.Prelude.{◌≡◌, ℕ, zero, suc, Bool, true, false, not, ◌&&◌, IsTrue, List, [], ◌∷◌, map, Option, None}
use Rattle.std.specs.Prelude.{is_some, IfSome, if◌then◌else◌}
use Rattle.std.specs.Borrow.{Bor}
use Rattle.std.specs.FinSet.{contains}
use Rattle.cargo_platform.specs.declared.cfg.Cfg.{Cfg}
use Rattle.cargo_platform.specs.Trees.{tree_of, value_of}
use Rattle.cargo_platform.specs.Facts.{Pair, FactSet, pair_of, truth}
use Rattle.partial_facts.specs.OneValued.{is_single}
use Rattle.exact_answers.specs.Diagrams.{Agrees}
use Rattle.exact_answers.specs.declared.goal_diagrams.building.Goal.{Goal}
use Rattle.exact_answers.specs.declared.goal_diagrams.answers.Outcome.{Outcome}
use Rattle.exact_answers.specs.declared.goal_diagrams.answers.Outcome.TheVariants as outcome

-- the truth that is wanted, or its negation
abbrev pub true_as_wanted : Bool → Bool → Bool
true_as_wanted wanted b = if wanted then b else not b

-- whether each goal is met
abbrev pub goals_met : FactSet → List Goal → Bool
goals_met s [] = true
goals_met s (g ∷ gs) = true_as_wanted g.wanted (truth s (tree_of g.e.now)) && goals_met s gs

-- all that is told holds in the set
abbrev pub IsAsTold : (Pair → Option Bool) → FactSet → Type 0
IsAsTold told s = (p : Pair) → IfSome (told p) (λ b. contains s p ≡ b)

-- of a key with one value, two different values that are both open are not both facts
abbrev pub HasOneOpenValue : (Pair → Option Bool) → List (List ℕ) → FactSet → Type 0
HasOneOpenValue told single s = (p q : Pair) → IsTrue (is_single single p) → IsTrue (is_some q.value)
    → p.name ≡ q.name → told p ≡ None → told q ≡ None → IsTrue (contains s p) → IsTrue (contains s q) → p ≡ q

-- pairs, whatever their place in memory
abbrev pub pairs_of : List (Bor Cfg) → List Pair
pairs_of cs = map (λ c. pair_of (value_of c.now)) cs

-- the pair has this number
abbrev pub StandsAt : List Pair → ℕ → Pair → Type 0
StandsAt [] n p = ⊥
StandsAt (q ∷ qs) zero p = q ≡ p
StandsAt (q ∷ qs) (suc n) p = StandsAt qs n p

-- whether the pair with a number is a fact
abbrev pub holds_in : FactSet → List Pair → ℕ → Bool
holds_in s [] n = false
holds_in s (p ∷ ps) zero = contains s p
holds_in s (p ∷ ps) (suc n) = holds_in s ps n

-- what an outcome says of a set that is possible, by whether each goal is met over it
abbrev pub SaysOutcome : Outcome → FactSet → List Pair → Bool → Type 0
SaysOutcome (outcome.Way choices) s ps met = Agrees (holds_in s ps) choices.items → met ≡ true
SaysOutcome outcome.Nothing s ps met = met ≡ false
SaysOutcome outcome.TooLarge s ps met = Unit {0}
