-- How deeply the groups of a text, and of a tree, are nested.
use Rattle.std.specs.Prelude.{◌≡◌, ℕ, ◌+◌, ◌-◌, ◌≤◌, ◌<◌, max, List, [], ◌∷◌, take}
use Rattle.cargo_platform.specs.Tokens.{Lexeme, LeftParen, RightParen, Ident, Comma, Equals, String, Placed}
use Rattle.cargo_platform.specs.Cut.{IsCut, lexemes, Token, ComesBehind}
use Rattle.cargo_platform.specs.Trees.{Tree, Not, All, Any, Value, True, False, Trees, none, tree}
use Rattle.cargo_platform.specs.Spelling.{IsTreeText}

-- the number of open parentheses after a token, from the number before it; a `)` that closes none is ignored
abbrev pub open_after : ℕ → Lexeme → ℕ
open_after before LeftParen = before + 1
open_after before RightParen = before - 1
open_after before (Ident raw name) = before
open_after before Comma = before
open_after before Equals = before
open_after before (String value) = before

-- the same after tokens, one after another
abbrev pub open_behind : ℕ → List Lexeme → ℕ
open_behind before [] = before
open_behind before (t ∷ ts) = open_behind (open_after before t) ts

-- after any number of the tokens, at most this many parentheses are open
abbrev pub IsWithin : ℕ → List Lexeme → Type 0
IsWithin most ts = (k : ℕ) → open_behind 0 (take k ts) ≤ most

-- after some number of the tokens this many are open, and never more
abbrev pub IsMostOpen : List Lexeme → ℕ → Type 0
IsMostOpen ts most = IsWithin most ts × ((k : ℕ) × (open_behind 0 (take k ts) ≡ most))

-- this is the greatest number of parentheses that are open at once in the tokens of a text
abbrev pub IsNesting : List ℕ → ℕ → Type 0
IsNesting text most = (ts : List Placed) × (tail : ℕ) × IsCut text ts tail × IsMostOpen (lexemes ts) most

-- no more than this many are open at once
abbrev pub IsNestedWithin : List ℕ → ℕ → Type 0
IsNestedWithin text most = (nesting : ℕ) × IsNesting text nesting × nesting ≤ most

-- The `(` at this position is the first with which more than `most` are open: exactly `most` are open before it.
pub record IsPassedAt (text : List ℕ) (most at : ℕ) : Type 0 where
  pub before : List Placed
  pub paren : Placed
  pub comes : ComesBehind text 0 before (Token paren) paren.end
  pub is_paren : paren.token ≡ LeftParen
  pub place : paren.start ≡ at
  pub within : IsWithin most (lexemes before)
  pub all_open : open_behind 0 (lexemes before) ≡ most

-- the number of groups, including negations, on the longest path down a tree
abbrev mutual
  pub groups_down : Tree → ℕ
  groups_down (Not e) = 1 + groups_down e
  groups_down (All es) = 1 + groups_below es
  groups_down (Any es) = 1 + groups_below es
  groups_down (Value c) = 0
  groups_down True = 0
  groups_down False = 0

  pub groups_below : Trees → ℕ
  groups_below none = 0
  groups_below (tree e es) = max (groups_down e) (groups_below es)

-- more than this many are open somewhere in the text
abbrev pub IsNestedBeyond : List ℕ → ℕ → Type 0
IsNestedBeyond text most = (nesting : ℕ) → IsNesting text nesting → most < nesting

-- if a text spells a tree, its groups are nested as deeply as those of the tree
abbrev pub IsDeepAsTree : List ℕ → ℕ → Type 0
IsDeepAsTree text nesting = (e : Tree) → IsTreeText text e → nesting ≡ groups_down e
