-- The records of a flat condition, read from the last one on. Each leaves a tree on a stack, whose top comes first.
use Rattle.std.specs.Prelude.{◌≡◌, ⊤, ℕ, Bool, ◌||◌, ◌&&◌, ◌==◌, List, ◌∷◌, ◌++◌, length, map, reverse}
use Rattle.cargo_platform.specs.declared.cfg.CfgExpr.{CfgExpr}
use Rattle.cargo_platform.specs.Trees.{CfgValue, Tree, Not, All, Any, Value, True, False, tree_of, trees_of, value_of}
use Rattle.byte_answers.specs.declared.unflat.Record.{Record}
use Rattle.byte_answers.specs.declared.unflat.Record.TheVariants as kept
use Rattle.byte_answers.specs.Flat.{numbers, flat_value, first_of, second_of, tag_of, IsValueOfTexts}

pub data Piece : Type 0 where
  leaf : CfgValue → Piece
  yes : Piece
  no : Piece
  negation : Piece
  all_of : ℕ → Piece
  any_of : ℕ → Piece

-- its numbers and its tag
abbrev pub first_number : Piece → ℕ
first_number (leaf c) = length (first_of c)
first_number yes = 0
first_number no = 0
first_number negation = 1
first_number (all_of n) = n
first_number (any_of n) = n

abbrev pub second_number : Piece → ℕ
second_number (leaf c) = length (second_of c)
second_number yes = 0
second_number no = 0
second_number negation = 0
second_number (all_of n) = 0
second_number (any_of n) = 0

abbrev pub piece_tag : Piece → ℕ
piece_tag (leaf c) = tag_of c
piece_tag yes = 4
piece_tag no = 5
piece_tag negation = 6
piece_tag (all_of n) = 7
piece_tag (any_of n) = 8

abbrev pub piece_bytes : Piece → List ℕ
piece_bytes (leaf c) = flat_value c
piece_bytes yes = numbers 0 0 4
piece_bytes no = numbers 0 0 5
piece_bytes negation = numbers 1 0 6
piece_bytes (all_of n) = numbers n 0 7
piece_bytes (any_of n) = numbers n 0 8

-- its texts are UTF-8
abbrev pub IsPieceOfTexts : Piece → Type 0
IsPieceOfTexts (leaf c) = IsValueOfTexts c
IsPieceOfTexts yes = ⊤
IsPieceOfTexts no = ⊤
IsPieceOfTexts negation = ⊤
IsPieceOfTexts (all_of n) = ⊤
IsPieceOfTexts (any_of n) = ⊤

-- true if a record without texts may have this tag and these numbers
abbrev pub is_group : ℕ → ℕ → ℕ → Bool
is_group tag a b =
    b == 0 && ((tag == 4 && a == 0) || (tag == 5 && a == 0) || (tag == 6 && a == 1) || tag == 7 || tag == 8)

-- the effect of a piece on a stack
abbrev pub Leaves : Piece → List Tree → List Tree → Type 0
Leaves (leaf c) old new = new ≡ Value c ∷ old
Leaves yes old new = new ≡ True ∷ old
Leaves no old new = new ≡ False ∷ old
Leaves negation old new = (e : Tree) × ((rest : List Tree) × ((old ≡ e ∷ rest) × (new ≡ Not e ∷ rest)))
Leaves (all_of n) old new =
    (es rest : List Tree) × ((length es ≡ n) × (old ≡ es ++ rest) × (new ≡ All (trees_of es) ∷ rest))
Leaves (any_of n) old new =
    (es rest : List Tree) × ((length es ≡ n) × (old ≡ es ++ rest) × (new ≡ Any (trees_of es) ∷ rest))

-- the piece that a record of the program stands for, and its stack
abbrev pub piece_of : Record → Piece
piece_of (kept.Value c) = leaf (value_of c)
piece_of kept.True = yes
piece_of kept.False = no
piece_of kept.Not = negation
piece_of (kept.All n) = all_of n
piece_of (kept.Any n) = any_of n

abbrev pub stack_of : List CfgExpr → List Tree
stack_of built = map tree_of (reverse built)
