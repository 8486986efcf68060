-- For which line a text is refused: the first that spells no fact, or names a target again. A line is named by its
-- number, counted from 1.
use Rattle.std.specs.Prelude.{◌≡◌, ◌≢◌, ◌≤◌, ◌<◌, ◌-◌, ℕ, List, [], ◌∷◌, ◌++◌, length, take, Result, Ok, Err}
use Rattle.cargo_platform.specs.Spelling.{Values}
use Rattle.cargo_platform.specs.Faults.{IsRefusedAt}
use Rattle.cargo_platform.specs.Errors.{orig_of, fault_in, span_in}
use Rattle.cargo_platform.specs.Lines.{line_at}
use Rattle.cargo_platform.specs.FactLines.{SpellsNoFact}
use Rattle.cargo_platform.specs.declared.error.ParseError.{ParseError}
use Rattle.target_tables.specs.Rows.{Row, AreRows, AreDistinct, name_at}
use Rattle.target_tables.specs.declared.error.TableError.{TableError}
use Rattle.target_tables.specs.declared.error.TableError.TheVariants.{Line, Twice, Memory}

-- a statement about a line that spells no fact: its number, and its error
abbrev pub IfLine : {A : Type 0} → Result A TableError → (ℕ → ParseError → Type 0) → Type 0
IfLine (Ok a) P = Unit {0}
IfLine (Err (Line n e)) P = P n e
IfLine (Err (Twice n)) P = Unit {0}
IfLine (Err (Memory e)) P = Unit {0}

-- a statement about a line that names a target again: its number
abbrev pub IfTwice : {A : Type 0} → Result A TableError → (ℕ → Type 0) → Type 0
IfTwice (Ok a) P = Unit {0}
IfTwice (Err (Line n e)) P = Unit {0}
IfTwice (Err (Twice n)) P = P n
IfTwice (Err (Memory e)) P = Unit {0}

-- The line names a target again: the lines up to it are those of rows, each with a name of its own, and of one more
-- that has the name of one of them, and nothing but its name.
pub record IsRepeat (ls : List (List ℕ)) (n : ℕ) : Type 0 where
  pub rows : List Row
  pub row : Row
  pub numbered : (1 ≤ n) × (n ≤ length ls)
  pub read : AreRows (take n ls) (rows ++ row ∷ [])
  pub distinct : AreDistinct rows
  pub again : (k : ℕ) × (k < length rows) × (name_at rows k ≡ row.name)
  pub here : (line_at ls n ≢ []) × (row.facts ≡ [])

-- The line goes on with a target, and spells no fact: the lines before it are those of rows, each with a name of its
-- own, and the last of these lines is not empty. This is the line's error.
pub record IsNoFact (ls : List (List ℕ)) (n : ℕ) (e : ParseError) : Type 0 where
  pub rows : List Row
  pub numbered : (2 ≤ n) × (n ≤ length ls)
  pub read : AreRows (take (n - 1) ls) rows
  pub distinct : AreDistinct rows
  pub inside : (line_at ls (n - 1) ≢ []) × (line_at ls n ≢ [])
  pub here : SpellsNoFact (line_at ls n)
  pub orig : orig_of e ≡ line_at ls n
  pub fault : IsRefusedAt Values (line_at ls n) (fault_in e) (span_in e)
