-- Expressions with the truths that are wanted of them, and the search for a set over which they have these.
use Rattle.std.specs.Prelude.{◌≡◌, ℕ, ◌+◌, ◌^◌, ◌<◌, Bool, true, false, not, ◌||◌, List, [], ◌∷◌, map}
use Rattle.std.specs.Prelude.{Option, Some, None, is_none, IsTrue}
use Rattle.std.specs.Bool.{MatchBool}
use Rattle.std.specs.List.{All}
use Rattle.std.specs.FinSet.{contains, from_list}
use Rattle.cargo_platform.specs.Trees.{CfgValue, Trees, none, tree, tree_of, value_of}
use Rattle.cargo_platform.specs.Facts.{Pair, FactSet, pair_of, pair_cmp, fact_set, truth}
use Rattle.partial_facts.specs.Kleene.{kleene, kleene_not, kleene_and}
use Rattle.exact_answers.specs.Goals.{true_as_wanted, goals_met}
use Rattle.exact_answers.specs.Inside.Paths.{Base, IsOver, Turn, set_on, told_on, Agrees, facts_on, base_of}
use Rattle.exact_answers.specs.Inside.Paths.{turns, WereOpen}
use Rattle.exact_answers.specs.Possible.{IsAllowed}
use Rattle.exact_answers.specs.Asking.{some_asks, one_if, HasAll, NeedsMore}
use Rattle.exact_answers.specs.Answers.{IsUnmarked, IsFactOfExample}
use Rattle.exact_answers.specs.declared.fact_constraints.FactConstraints.{FactConstraints}
use Rattle.exact_answers.specs.declared.path.Path.{Path}
use Rattle.exact_answers.specs.declared.goal_diagrams.building.Goal.{Goal}
use Rattle.exact_answers.specs.declared.diagram.DiagramResult.{DiagramResult}
use Rattle.exact_answers.specs.declared.diagram.DiagramResult.TheVariants as end
use Rattle.exact_answers.specs.declared.search.Found.{Found}
use Rattle.exact_answers.specs.declared.search.Found.TheVariants as found
use Rattle.exact_answers.specs.declared.search.GoalsState.{GoalsState}
use Rattle.exact_answers.specs.declared.search.GoalsState.TheVariants as step

-- whether some member is not decided
abbrev pub has_open : (Pair → Option Bool) → Trees → Bool
has_open told none = false
has_open told (tree e es) = is_none (kleene told e) || has_open told es

-- the truth that is wanted, or its negation
abbrev pub as_wanted : Bool → Option Bool → Option Bool
as_wanted true x = x
as_wanted false x = kleene_not x

-- whether each goal is met, where that is known
abbrev pub goals_known : (Pair → Option Bool) → List Goal → Option Bool
goals_known told [] = Some true
goals_known told (g ∷ gs) = kleene_and (as_wanted g.wanted (kleene told (tree_of g.e.now))) (goals_known told gs)

abbrev pub goal_trees : List Goal → Trees
goal_trees [] = none
goal_trees (g ∷ gs) = tree (tree_of g.e.now) (goal_trees gs)

-- each pair of the splits is in one of the trees
abbrev pub AreAsked : Trees → List Turn → Type 0
AreAsked es [] = Unit {0}
AreAsked es (d ∷ ds) = (some_asks es d.pair ≡ true) × AreAsked es ds

-- what a step says
abbrev pub SaysStep : GoalsState → (Pair → Option Bool) → List Goal → Type 0
SaysStep (step.Decided b) told gs = goals_known told gs ≡ Some b
SaysStep (step.Open c) told gs =
    (told (pair_of (value_of c.now)) ≡ None) × (some_asks (goal_trees gs) (pair_of (value_of c.now)) ≡ true)

-- no possible set that agrees with the splits meets the goals
abbrev pub AreMissed : Base → List Goal → List Turn → Type 0
AreMissed k gs ds = (s : FactSet) → IsOver k s → Agrees s ds → goals_met s gs ≡ false

-- the facts so far meet the goals
abbrev pub AreMet : Base → List Goal → List Turn → Type 0
AreMet k gs ds = goals_met (set_on k ds) gs ≡ true

-- what a step says, with a look ahead
abbrev pub SaysStepOn : GoalsState → Base → List Goal → List Turn → Type 0
SaysStepOn (step.Decided b) k gs ds = MatchBool b (AreMet k gs ds) (AreMissed k gs ds)
SaysStepOn (step.Open c) k gs ds =
    (told_on k ds (pair_of (value_of c.now)) ≡ None) × (some_asks (goal_trees gs) (pair_of (value_of c.now)) ≡ true)

-- what became of a search among the sets of A: the facts that are found are one of them, P holds over them, and F holds
-- of each; where there are none, Q holds over each of the sets; and what holds where the splits are used up
abbrev pub SaysFoundAmong : (FactSet → Type 0) → (CfgValue → Type 0) → Found → (FactSet → Type 0)
    → (FactSet → Type 0) → Type 0 → Type 0
SaysFoundAmong A F (found.Facts facts) P Q R =
    A (fact_set (map value_of facts.items))
    × (P (fact_set (map value_of facts.items)) × All F (map value_of facts.items))
SaysFoundAmong A F found.Nothing P Q R = (s : FactSet) → A s → Q s
SaysFoundAmong A F found.Undecided P Q R = R

-- what became of a search among the possible sets, on the expressions es
abbrev pub SaysFound : Found → FactConstraints → Trees → ℕ → (FactSet → Type 0) → (FactSet → Type 0) → Type 0
SaysFound r k es budget P Q =
    SaysFoundAmong (λ s. IsAllowed k s) (λ c. IsFactOfExample k es c) r P Q (NeedsMore k es budget)

-- how many of the pairs are open on the path
abbrev pub open_on : Base → List Turn → List Pair → ℕ
open_on k ds [] = 0
open_on k ds (p ∷ ps) = one_if (is_none (told_on k ds p)) + open_on k ds ps

abbrev pub NeedsMoreOn : Base → Trees → ℕ → Type 0
NeedsMoreOn k es budget = (ps : List Pair) → HasAll es ps → budget + 1 < 2 ^ open_on k [] ps

-- a fact without a raw mark that is listed or is in one of the trees
abbrev pub MayBeFound : Base → Trees → CfgValue → Type 0
MayBeFound k es c =
    IsUnmarked c × IsTrue (contains (from_list {R = pair_cmp} k.listed) (pair_of c) || some_asks es (pair_of c))

-- a set over which each goal is met, or that there is none
abbrev pub Searched : Base → List Goal → ℕ → Found → Type 0
Searched k gs budget r =
    SaysFoundAmong (λ s. IsOver k s) (λ c. MayBeFound k (goal_trees gs) c) r (λ s. goals_met s gs ≡ true)
    (λ s. goals_met s gs ≡ false) (NeedsMoreOn k (goal_trees gs) budget)

-- how the path is at the end of a search: the facts are those on it; nothing is left on it, where there is no set;
-- or it has counted as many splits as the budget has
abbrev pub Ends : Found → Path → ℕ → Type 0
Ends (found.Facts facts) p budget = map pair_of (map value_of facts.items) ≡ facts_on (base_of p.known.now) (turns p)
Ends found.Nothing p budget = turns p ≡ []
Ends found.Undecided p budget = p.made ≡ budget

-- the path is over what is known, and its pairs were open and are asked for
pub record IsPathOf (p : Path) (k : FactConstraints) (es : Trees) : Type 0 where
  pub known : p.known.now ≡ k
  pub were_open : WereOpen (base_of k) (turns p)
  pub asked : AreAsked es (turns p)

-- what a diagram tells: a path on which the goals are met, or that no possible set meets them
abbrev pub SaysEnd : DiagramResult → FactConstraints → List Goal → Type 0
SaysEnd (end.Met p) k gs = IsPathOf p k (goal_trees gs) × AreMet (base_of k) gs (turns p)
SaysEnd end.Missed k gs = AreMissed (base_of k) gs []

-- the goal is met over the facts that are found, or there are none
abbrev pub IsMetBy : Goal → Found → Type 0
IsMetBy g (found.Facts facts) =
    true_as_wanted g.wanted (truth (fact_set (map value_of facts.items)) (tree_of g.e.now)) ≡ true
IsMetBy g found.Nothing = Unit {0}
IsMetBy g found.Undecided = ⊥
