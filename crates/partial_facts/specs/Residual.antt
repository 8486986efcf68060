-- The residual of a tree: its truth if that is known, and otherwise the tree without the members that are known.
use Rattle.std.specs.Prelude.{◌≡◌, ◌⊎◌, Bool, true, false, Option, Some, None, List, [], ◌∷◌}
use Rattle.cargo_platform.specs.Trees.{Tree, Not, All, Any, Value, True, False, Trees, none, tree}
use Rattle.cargo_platform.specs.Facts.{Pair, pair_of}
use Rattle.partial_facts.specs.Kleene.{kleene}

abbrev pub literal : Bool → Tree
literal true = True
literal false = False

-- the literal of a known truth, or else the tree
abbrev pub unless_known : Option Bool → Tree → Tree
unless_known (Some b) e = literal b
unless_known None e = e

-- one more member in front, unless its truth is known
abbrev pub with_unknown : Option Bool → Tree → Trees → Trees
with_unknown (Some b) e es = es
with_unknown None e es = tree e es

-- a group of the members, or the only member if there is one, or a literal if there are none
abbrev pub group : Tree → (Trees → Tree) → Trees → Tree
group empty of none = empty
group empty of (tree e none) = e
group empty of (tree d (tree e es)) = of (tree d (tree e es))

-- the residual of a tree whose truth is not known
abbrev mutual
  pub unknown_part : (Pair → Option Bool) → Tree → Tree
  unknown_part told (Not e) = Not (unknown_part told e)
  unknown_part told (All es) = group True All (unknown_members told es)
  unknown_part told (Any es) = group False Any (unknown_members told es)
  unknown_part told (Value c) = Value c
  unknown_part told True = True
  unknown_part told False = False

  pub unknown_members : (Pair → Option Bool) → Trees → Trees
  unknown_members told none = none
  unknown_members told (tree e es) = with_unknown (kleene told e) (unknown_part told e) (unknown_members told es)

abbrev pub residual_tree : (Pair → Option Bool) → Tree → Tree
residual_tree told e = unless_known (kleene told e) (unknown_part told e)

-- the truth of a tree that is a literal alone
abbrev pub literal_truth : Tree → Option Bool
literal_truth True = Some true
literal_truth False = Some false
literal_truth e = None

abbrev pub AreTwoOrMore : Trees → Type 0
AreTwoOrMore none = ⊥
AreTwoOrMore (tree e none) = ⊥
AreTwoOrMore (tree d (tree e es)) = Unit {0}

-- nothing is known of any value, no literal is in it, and each group has two members or more
abbrev mutual
  pub IsOpen : (Pair → Option Bool) → Tree → Type 0
  IsOpen told (Not e) = IsOpen told e
  IsOpen told (All es) = AreTwoOrMore es × AreOpen told es
  IsOpen told (Any es) = AreTwoOrMore es × AreOpen told es
  IsOpen told (Value c) = told (pair_of c) ≡ None
  IsOpen told True = ⊥
  IsOpen told False = ⊥

  pub AreOpen : (Pair → Option Bool) → Trees → Type 0
  AreOpen told none = Unit {0}
  AreOpen told (tree e es) = IsOpen told e × AreOpen told es

abbrev pub IsLiteralOrOpen : (Pair → Option Bool) → Tree → Type 0
IsLiteralOrOpen told True = Unit {0}
IsLiteralOrOpen told False = Unit {0}
IsLiteralOrOpen told e = IsOpen told e

-- the first list is the second with some left out
abbrev pub IsSubsequence : {A : Type 0} → List A → List A → Type 0
IsSubsequence [] ys = Unit {0}
IsSubsequence (x ∷ xs) [] = ⊥
IsSubsequence (x ∷ xs) (y ∷ ys) = ((x ≡ y) × IsSubsequence xs ys) ⊎ IsSubsequence (x ∷ xs) ys

-- the negation, which for a literal is the other literal
abbrev pub negation : Tree → Tree
negation True = False
negation False = True
negation e = Not e
