-- The rows of a table, and the lines that they are read from.
use Rattle.std.specs.Prelude.{◌≡◌, ◌≢◌, ◌<◌, ◌⊎◌, ℕ, Bool, List, [], ◌∷◌, ◌++◌, map, length, string_bytes}
use Rattle.std.specs.List.{slice_index_or, AllByRecursion}
use Rattle.cargo_platform.specs.Trees.{CfgValue, value_of, Condition}
use Rattle.cargo_platform.specs.Facts.{fact_set, truth_of_condition}
use Rattle.cargo_platform.specs.FactLines.{SpellFacts}
use Rattle.target_tables.specs.declared.table.TargetRow.{TargetRow}
use Rattle.target_tables.specs.declared.table.TargetTable.{TargetTable}

-- a target's name and its facts
pub record Row : Type 0 where
  pub name : List ℕ
  pub facts : List CfgValue

abbrev pub row_of : TargetRow → Row
row_of row = record { name = string_bytes row.name; facts = map value_of row.facts.items }

abbrev pub rows_of : TargetTable → List Row
rows_of table = map row_of table.rows.items

abbrev pub no_row : Row
no_row = record { name = []; facts = [] }

abbrev pub row_at : List Row → ℕ → Row
row_at rows k = slice_index_or rows k no_row

abbrev pub name_at : List Row → ℕ → List ℕ
name_at rows k = (row_at rows k).name

-- ---- lines

-- all lines are empty
abbrev pub AreEmpty : List (List ℕ) → Type 0
AreEmpty ls = AllByRecursion (λ l. l ≡ []) ls

-- no line is empty
abbrev pub AreFilled : List (List ℕ) → Type 0
AreFilled ls = AllByRecursion (λ l. l ≢ []) ls

-- the lines end, or the first one is empty
abbrev pub IsBlockEnd : List (List ℕ) → Type 0
IsBlockEnd ls = (ls ≡ []) ⊎ ((others : List (List ℕ)) × (ls ≡ [] ∷ others))

-- The lines are those of the row and the rest. Those of the row are after empty lines, and no line is empty of
-- them: the first is its name, and the others spell its facts. They go up to an empty line, or to the end.
pub record BeginWith (ls : List (List ℕ)) (row : Row) (rest : List (List ℕ)) : Type 0 where
  pub gap : List (List ℕ)
  pub texts : List (List ℕ)
  pub lines : ls ≡ gap ++ ((row.name ∷ texts) ++ rest)
  pub empty : AreEmpty gap
  pub filled : AreFilled (row.name ∷ texts)
  pub facts : SpellFacts texts row.facts
  pub end : IsBlockEnd rest

-- the rows are all that the lines have
abbrev pub AreRows : List (List ℕ) → List Row → Type 0
AreRows ls [] = AreEmpty ls
AreRows ls (row ∷ rows) = (rest : List (List ℕ)) × BeginWith ls row rest × AreRows rest rows

-- ---- names

-- no row has the name
abbrev pub HasNoRow : List Row → List ℕ → Type 0
HasNoRow rows name = (k : ℕ) → k < length rows → name_at rows k ≢ name

-- a row of the table with this name
abbrev pub IsRowNamed : List Row → List ℕ → Row → Type 0
IsRowNamed rows name row = (k : ℕ) × (k < length rows) × (row_at rows k ≡ row) × (row.name ≡ name)

-- no two rows have the same name
abbrev pub AreDistinct : List Row → Type 0
AreDistinct rows = (j k : ℕ) → j < k → k < length rows → name_at rows j ≢ name_at rows k

-- ---- conditions

-- whether the condition holds at the target of the row at this place
abbrev pub holds_at : List Row → Condition → ℕ → Bool
holds_at rows c k = truth_of_condition (name_at rows k) (fact_set (row_at rows k).facts) c
