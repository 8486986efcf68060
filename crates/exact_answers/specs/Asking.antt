-- Which pairs a question asks for, how many of them are open, and what budget is too small.
use Rattle.std.specs.Prelude.{◌≡◌, ℕ, ◌+◌, ◌^◌, ◌<◌, Bool, true, false, ◌||◌, List, [], ◌∷◌}
use Rattle.std.specs.List.{list_any}
use Rattle.std.specs.Ordering.{eq_by_cmp}
use Rattle.cargo_platform.specs.Trees.{Tree, Not, All, Any, Value, True, False, Trees, none, tree, tree_of}
use Rattle.cargo_platform.specs.Facts.{Pair, pair_of, pair_cmp}
use Rattle.exact_answers.specs.Possible.{is_open}
use Rattle.exact_answers.specs.declared.fact_constraints.FactConstraints.{FactConstraints}

abbrev pub is_pair : Pair → Pair → Bool
is_pair p = eq_by_cmp pair_cmp p

-- whether the pair is in the tree
abbrev mutual
  pub asks : Tree → Pair → Bool
  asks (Not e) p = asks e p
  asks (All es) p = some_asks es p
  asks (Any es) p = some_asks es p
  asks (Value c) p = is_pair p (pair_of c)
  asks True p = false
  asks False p = false

  pub some_asks : Trees → Pair → Bool
  some_asks none p = false
  some_asks (tree e es) p = asks e p || some_asks es p

abbrev pub one_if : Bool → ℕ
one_if true = 1
one_if false = 0

-- how many of the pairs are open
abbrev pub open_count : FactConstraints → List Pair → ℕ
open_count k [] = 0
open_count k (p ∷ ps) = one_if (is_open k p) + open_count k ps

-- the list has each pair that is in some tree
abbrev pub HasAll : Trees → List Pair → Type 0
HasAll es ps = (p : Pair) → some_asks es p ≡ true → list_any (is_pair p) ps ≡ true

-- a budget that is too small: whichever list has all pairs of the question and of what is assumed, where n of the list
-- are open, the budget is less than 2 ^ n - 1
abbrev pub NeedsMore : FactConstraints → Trees → ℕ → Type 0
NeedsMore k es budget =
    (ps : List Pair) → HasAll (tree (tree_of k.assumed.now) es) ps → budget + 1 < 2 ^ open_count k ps
