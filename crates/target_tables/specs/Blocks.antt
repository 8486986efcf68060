-- For private functions: the beginning of lines.
use Rattle.std.specs.Prelude.{◌≡◌, ◌≢◌, ◌+◌, ℕ, List, [], ◌∷◌, ◌++◌, length}
use Rattle.cargo_platform.specs.Trees.{CfgValue}
use Rattle.cargo_platform.specs.Spelling.{Values}
use Rattle.cargo_platform.specs.Faults.{IsRefusedAt}
use Rattle.cargo_platform.specs.Errors.{orig_of, fault_in, span_in}
use Rattle.cargo_platform.specs.Lines.{lines_of, line_at}
use Rattle.cargo_platform.specs.FactLines.{SpellFacts, IsFirstNoFact}
use Rattle.cargo_platform.specs.declared.error.ParseError.{ParseError}
use Rattle.target_tables.specs.Rows.{Row, AreRows, AreDistinct, AreEmpty, AreFilled, IsBlockEnd}

-- this many empty lines, and then the rest, which begins with none
pub record IsBehindEmpty (ls : List (List ℕ)) (many : ℕ) (rest : List (List ℕ)) : Type 0 where
  pub gap : List (List ℕ)
  pub lines : ls ≡ gap ++ rest
  pub empty : AreEmpty gap
  pub size : length gap ≡ many
  pub behind : (others : List (List ℕ)) → rest ≢ [] ∷ others

-- the lines of the front, none of them empty, and then the rest
pub record IsFilledFront (ls : List (List ℕ)) (front : List ℕ) (rest : List (List ℕ)) : Type 0 where
  pub lines : ls ≡ lines_of front ++ rest
  pub filled : AreFilled (lines_of front)
  pub end : IsBlockEnd rest

-- lines that spell the facts, none of them empty, and then the rest
pub record IsBlock (ls : List (List ℕ)) (facts : List CfgValue) (rest : List (List ℕ)) : Type 0 where
  pub texts : List (List ℕ)
  pub lines : ls ≡ texts ++ rest
  pub filled : AreFilled texts
  pub spell : SpellFacts texts facts
  pub end : IsBlockEnd rest

-- the error of the first of these lines that spells no fact, where this many lines are before them
pub record IsNoFactOf (ls : List (List ℕ)) (before n : ℕ) (e : ParseError) : Type 0 where
  pub at : ℕ
  pub number : n ≡ before + at
  pub first : IsFirstNoFact ls at
  pub orig : orig_of e ≡ line_at ls at
  pub fault : IsRefusedAt Values (line_at ls at) (fault_in e) (span_in e)

-- the same of the lines up to an empty one
pub record IsNoFactBehind (ls : List (List ℕ)) (before n : ℕ) (e : ParseError) : Type 0 where
  pub texts : List (List ℕ)
  pub rest : List (List ℕ)
  pub lines : ls ≡ texts ++ rest
  pub filled : AreFilled texts
  pub error : IsNoFactOf texts before n e

-- This many lines are read as those of the rows, each with a name of its own, and the rest is left, which does not
-- begin with an empty line. If the rest is replaced by the lines of other rows, these come after the rows that were
-- read.
pub record AreRead (ls : List (List ℕ)) (rows : List Row) (passed : ℕ) (rest : List (List ℕ)) : Type 0 where
  pub taken : List (List ℕ)
  pub lines : ls ≡ taken ++ rest
  pub size : length taken ≡ passed
  pub more : (ys : List (List ℕ)) (others : List Row) → (rest ≡ [] → ys ≡ []) → AreRows ys others
      → AreRows (taken ++ ys) (rows ++ others)
  pub next : (others : List (List ℕ)) → rest ≢ [] ∷ others
  pub distinct : AreDistinct rows
