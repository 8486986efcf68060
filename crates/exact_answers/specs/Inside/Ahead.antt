-- Goals that are worked out operation by operation, over one set of facts and over 64 at once.
use Rattle.std.specs.Prelude.{◌≡◌, ℕ, zero, suc, ◌<◌, Bool, true, false, ◌&&◌, ◌||◌, Option, None, IfSome}
use Rattle.std.specs.Prelude.{List, [], ◌∷◌, ◌++◌, map, reverse, drop, sum}
use Rattle.std.specs.Int.{bit_at}
use Rattle.std.specs.List.{All}
use Rattle.std.specs.FinSet.{contains}
use Rattle.cargo_platform.specs.Trees.{tree_of, value_of}
use Rattle.cargo_platform.specs.Facts.{Pair, FactSet, pair_of, truth}
use Rattle.cargo_platform.specs.ExpressionSizes.{node_count}
use Rattle.exact_answers.specs.Goals.{true_as_wanted, goals_met, pairs_of, StandsAt}
use Rattle.exact_answers.specs.Asking.{asks, some_asks}
use Rattle.exact_answers.specs.Inside.Paths.{Turn, Base, told_on}
use Rattle.exact_answers.specs.Inside.Searches.{goal_trees}
use Rattle.exact_answers.specs.declared.goal_diagrams.building.Goal.{Goal}
use Rattle.exact_answers.specs.declared.outlook.PairSets.{PairSets}
use Rattle.exact_answers.specs.declared.outlook.Finding.{Finding}
use Rattle.exact_answers.specs.declared.outlook.GoalState.{GoalState}
use Rattle.exact_answers.specs.declared.outlook.GoalState.TheVariants as seen
use Rattle.exact_answers.specs.declared.outlook.GoalEvaluator.{GoalEvaluator}
use Rattle.exact_answers.specs.declared.outlook.Operation.{Operation}
use Rattle.exact_answers.specs.declared.outlook.Operation.TheVariants as operation

abbrev pub both : Bool → Bool → Bool → Bool
both true a b = a && b
both false a b = a || b

-- whether each of the first n holds, or one
abbrev pub gathered : Bool → ℕ → List Bool → Bool
gathered each zero bs = each
gathered each (suc n) [] = each
gathered each (suc n) (b ∷ bs) = both each b (gathered each n bs)

abbrev pub meets : FactSet → Goal → Bool
meets s g = true_as_wanted g.wanted (truth s (tree_of g.e.now))

-- an operation, on what is worked out so far, the last one first
abbrev pub done : FactSet → Operation → List Bool → List Bool
done s (operation.Pair c wanted place) bs = true_as_wanted wanted (contains s (pair_of (value_of c.now))) ∷ bs
done s (operation.Is b) bs = b ∷ bs
done s (operation.Group each n) bs = gathered each n bs ∷ drop n bs

abbrev pub worked_out : FactSet → List Operation → List Bool → List Bool
worked_out s [] bs = bs
worked_out s (o ∷ os) bs = worked_out s os (done s o bs)

-- what the operations give, the last one first, once the goals that are left are worked out
abbrev pub outcome : FactSet → GoalEvaluator → List Goal → List Bool
outcome s outlook left = worked_out s (reverse outlook.operations.items) (map (meets s) left)

abbrev pub table_pairs : List PairSets → List Pair
table_pairs ws = map (λ w. pair_of (value_of w.pair.now)) ws

-- each pair with a number is one of some pairs
abbrev pub AreAmong : (Pair → Bool) → List Pair → Type 0
AreAmong among ps = (n : ℕ) (p : Pair) → StandsAt ps n p → among p ≡ true

-- the number in an operation is that of its pair
abbrev pub HasNumber : List Pair → Operation → Type 0
HasNumber ps (operation.Pair c wanted n) = StandsAt ps n (pair_of (value_of c.now))
HasNumber ps (operation.Is b) = Unit {0}
HasNumber ps (operation.Group each n) = Unit {0}

-- a goal asks for some pairs alone
abbrev pub AsksAmong : (Pair → Bool) → Goal → Type 0
AsksAmong among g = (p : Pair) → asks (tree_of g.e.now) p ≡ true → among p ≡ true

-- they give whether all goals are met, and have numbers for the pairs of these
pub record IsOutlook (outlook : GoalEvaluator) (gs : List Goal) : Type 0 where
  pub works_out : (s : FactSet) → worked_out s outlook.operations.items [] ≡ goals_met s gs ∷ []
  pub numbered : All (HasNumber (pairs_of outlook.pairs.items)) outlook.operations.items
  pub asked : AreAmong (some_asks (goal_trees gs)) (pairs_of outlook.pairs.items)

abbrev pub goals_size : List Goal → ℕ
goals_size gs = sum (map (λ g. node_count g.e.now) gs)

-- the set of facts s agrees with the set l of the 64 in a pair, and with what is told of it
abbrev pub Fits : FactSet → ℕ → PairSets → Type 0
Fits s l w = (contains s (pair_of (value_of w.pair.now)) ≡ true → bit_at w.with l ≡ 1)
    × (contains s (pair_of (value_of w.pair.now)) ≡ false → bit_at w.without l ≡ 1)
    × IfSome w.tells (λ b. contains s (pair_of (value_of w.pair.now)) ≡ b)

-- nothing is told of the pair with this number
abbrev pub IsOpenAt : List PairSets → ℕ → Type 0
IsOpenAt [] n = ⊥
IsOpenAt (w ∷ ws) zero = w.tells ≡ None
IsOpenAt (w ∷ ws) (suc n) = IsOpenAt ws n

-- what is seen of a goal is its truth, or it depends on an open pair
abbrev pub IsSeen : List PairSets → GoalState → Bool → Type 0
IsSeen table (seen.Known c) b = b ≡ c
IsSeen table (seen.Open n) b = IsOpenAt table n

-- what is found of a goal with this truth: it has the set l where the goal is met, and what is seen is so
abbrev pub Says : List PairSets → ℕ → Finding → Bool → Type 0
Says table l f b = (b ≡ true → bit_at f.sets l ≡ 1) × IsSeen table f.seen b

-- each is found of a goal with its truth
abbrev pub Covers : List PairSets → ℕ → List Finding → List Bool → Type 0
Covers table l [] [] = Unit {0}
Covers table l [] (b ∷ bs) = ⊥
Covers table l (f ∷ fs) [] = ⊥
Covers table l (f ∷ fs) (b ∷ bs) = Says table l f b × Covers table l fs bs

-- what is told of each pair on a path
abbrev pub AreTold : Base → List Turn → List PairSets → Type 0
AreTold k ds [] = Unit {0}
AreTold k ds (w ∷ ws) = (w.tells ≡ told_on k ds (pair_of (value_of w.pair.now))) × AreTold k ds ws

-- the sets that have the first pair, the second one, and so on
abbrev pub patterns : List ℕ
patterns =
    12297829382473034410 ∷ 14757395258967641292 ∷ 17361641481138401520 ∷ 18374966859414961920 ∷ 18446462603027742720
    ∷ 18446744069414584320 ∷ []

-- the set l is among those of a word, or it is not
abbrev pub IsSo : ℕ → ℕ → Bool → Type 0
IsSo l w b = (b ≡ true → bit_at w l ≡ 1) × (b ≡ false → bit_at w l ≡ 0)

abbrev pub AllSo : ℕ → List (ℕ × Bool) → Type 0
AllSo l [] = Unit {0}
AllSo l (c ∷ cs) = IsSo l c.0 c.1 × AllSo l cs

-- with some choice among the patterns that are used up, each of the 64 sets that agrees with it fits the words
abbrev pub AreChosen : FactSet → List ℕ → List PairSets → Type 0
AreChosen s left ws =
    (cs : List (ℕ × Bool)) × (map (λ c. c.0) cs ++ left ≡ patterns)
    × ((l : ℕ) → l < 64 → AllSo l cs → All (Fits s l) ws)

-- the words of a further pair, and the patterns that are left then
abbrev pub IsNext : Pair → Option Bool → List ℕ → PairSets → List ℕ → Type 0
IsNext p tells left w others =
    (s : FactSet) (ws : List PairSets) → IfSome tells (λ b. contains s p ≡ b) → AreChosen s left ws
    → AreChosen s others (ws ++ w ∷ [])
