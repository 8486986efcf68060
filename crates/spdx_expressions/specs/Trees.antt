-- Licences, the parts of an expression, and the tree that they mean, whatever their place in memory.
use Rattle.std.specs.Prelude.{ℕ, Bool, List, map, Option, Some, None, String, string_bytes}
use Rattle.spdx_expressions.specs.declared.Licence.{Licence}
use Rattle.spdx_expressions.specs.declared.Part.{Part}
use Rattle.spdx_expressions.specs.declared.Part.TheVariants as part

-- one licence of an expression
pub record Term : Type 0 where
  pub name : List ℕ
  pub or_later : Bool
  pub exception : Option (List ℕ)

-- what an expression means
pub data Tree : Type 0 where
  Single : (t : Term) → Tree
  Both : (left right : Tree) → Tree
  Either : (left right : Tree) → Tree

-- a part of an expression
pub data Piece : Type 0 where
  Named : (t : Term) → Piece
  And : Piece
  Or : Piece
  Open : Piece
  Close : Piece

abbrev pub text_of : {A : Type 0} → Option (String A) → Option (List ℕ)
text_of None = None
text_of (Some s) = Some (string_bytes s)

-- what a value of the program means
abbrev pub term_of : Licence → Term
term_of l = record { name = string_bytes l.id; or_later = l.or_later; exception = text_of l.exception }

abbrev pub piece_of : Part → Piece
piece_of (part.Licence l) = Named (term_of l)
piece_of part.And = And
piece_of part.Or = Or
piece_of part.Open = Open
piece_of part.Close = Close

abbrev pub pieces : List Part → List Piece
pieces ps = map piece_of ps
