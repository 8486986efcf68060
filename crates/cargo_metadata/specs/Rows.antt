-- Rows that are read from the elements of a list.
use Rattle.std.specs.Prelude.{◌≡◌, ◌<◌, ℕ, List, [], ◌∷◌, ◌++◌, Some, length, take}
use Rattle.std.specs.List.{slice_index_or}
use Rattle.serde_json.specs.Data.{Data, null}
use Rattle.cargo_metadata.specs.Fields.{list_at}

-- a row for each element, in order
pub data AreRows {X : Type 0} (IsRow : Data → X → Type 0) : List Data → List X → Type 0 where
  of_none : AreRows IsRow [] []
  of_more : (ds : List Data) (d : Data) (xs : List X) (x : X) → AreRows IsRow ds xs → IsRow d x
      → AreRows IsRow (ds ++ d ∷ []) (xs ++ x ∷ [])

-- the field has a list, and these are its rows
pub record AreRowsAt {X : Type 0} (IsRow : Data → X → Type 0) (field : List ℕ) (d : Data) (xs : List X) : Type 0 where
  pub elements : List Data
  pub stand : list_at field d ≡ Some elements
  pub rows : AreRows IsRow elements xs

abbrev pub HasRowsAt : {X : Type 0} → (Data → X → Type 0) → List ℕ → Data → Type 0
HasRowsAt {X} IsRow field d = (xs : List X) × AreRowsAt IsRow field d xs

-- the field has a list, whose element at the index is such, and those before it are rows
pub record IsFirstAt {X : Type 0} (IsRow : Data → X → Type 0) (Is : Data → Type 0) (field : List ℕ) (i : ℕ) (d : Data)
    : Type 0 where
  pub elements : List Data
  pub stand : list_at field d ≡ Some elements
  pub before : List X
  pub rows : AreRows IsRow (take i elements) before
  pub inside : i < length elements
  pub such : Is (slice_index_or elements i null)
