-- Laws of the truth of a tree over a set of facts, and of the order of keys.
use Rattle.std.specs.Prelude.{◌≡◌, ◌↔◌, ℕ, Bool, true, false, ◌&&◌, IsTrue, List, map, Contains}
use Rattle.std.specs.declared.cmp.Ordering.{Ordering}
use Rattle.std.specs.declared.cmp.Ordering.TheVariants.{Equal}
use Rattle.std.specs.FinSet.{contains}
use Rattle.std.specs.Cmp.{IsTotalOrder}
use Rattle.cargo_platform.specs.Trees.{CfgValue, Tree, Not, All, Any, Value, True, False, Trees, none, tree}
use Rattle.cargo_platform.specs.Trees.{Condition}
use Rattle.cargo_platform.specs.Facts.{Pair, pair_of, FactSet, fact_set, truth, IsTrueCondition, truth_of_condition}

-- a pair is in the fact set of a list exactly if it is the pair of some member
abbrev pub IsInWhereListed : List CfgValue → Pair → Type 0
IsInWhereListed cs p = IsTrue (contains (fact_set cs) p) ↔ Contains (map pair_of cs) p

-- the members of two lists have the same pairs, whatever their order and their repetitions
abbrev pub HaveSamePairs : List CfgValue → List CfgValue → Type 0
HaveSamePairs cs ds = (p : Pair) → Contains (map pair_of cs) p ↔ Contains (map pair_of ds) p

-- the truth of a condition as a function agrees with the relation of true conditions
abbrev pub IsTruthOfCondition : List ℕ → FactSet → Condition → Type 0
IsTruthOfCondition target facts p = IsTrue (truth_of_condition target facts p) ↔ IsTrueCondition target facts p

-- each fact of the first set is one of the second
abbrev pub HasAllFacts : FactSet → FactSet → Type 0
HasAllFacts fewer more = (p : Pair) → IsTrue (contains fewer p) → IsTrue (contains more p)

-- two sets have the same facts
abbrev pub HaveSameFacts : FactSet → FactSet → Type 0
HaveSameFacts s t = (p : Pair) → contains s p ≡ contains t p

-- the tree has no `Not`, at any depth
abbrev mutual
  pub is_without_not : Tree → Bool
  is_without_not (Not e) = false
  is_without_not (All es) = are_without_not es
  is_without_not (Any es) = are_without_not es
  is_without_not (Value c) = true
  is_without_not True = true
  is_without_not False = true

  pub are_without_not : Trees → Bool
  are_without_not none = true
  are_without_not (tree e es) = is_without_not e && are_without_not es

-- in a tree without `Not`, more facts never turn truth into falsehood
abbrev pub IsMonotone : FactSet → FactSet → Tree → Type 0
IsMonotone fewer more e = IsTrue (is_without_not e) → HasAllFacts fewer more → IsTrue (truth fewer e)
    → IsTrue (truth more e)

-- the negation of each member
abbrev pub negations : Trees → Trees
negations none = none
negations (tree e es) = tree (Not e) (negations es)

-- not all members are true exactly if some member's negation is
abbrev pub IsNotAllAnyNot : FactSet → Trees → Type 0
IsNotAllAnyNot facts es = truth facts (Not (All es)) ≡ truth facts (Any (negations es))

-- an order by keys: total, determined by the keys alone, and `Equal` exactly if the keys are equal
pub record IsOrderOfKeys {K : Type 0} (key : K → K) (cmp : K → K → Ordering) : Type 0 where
  pub total : IsTotalOrder cmp
  pub of_keys : (x y : K) → cmp (key x) (key y) ≡ cmp x y
  pub equal : (x y : K) → (cmp x y ≡ Equal) ↔ (key x ≡ key y)
