-- What follows from the definitions.
use Rattle.std.specs.Prelude.{◌≡◌, ℕ, List, [], All, slice_range, string_bytes}
use Rattle.text_edits.specs.declared.edits.Edit.{Edit}
use Rattle.text_edits.specs.Edits.{Edited}

-- a text and edits have one result
abbrev pub HasOneResult : Type 0
HasOneResult =
    (text : List ℕ) (at : ℕ) (edits : List Edit) (first second : List ℕ) (left other : ℕ)
    → Edited text at edits first left → Edited text at edits second other → (first ≡ second) × (left ≡ other)

-- without edits, a text stays as it is
abbrev pub IsKeptWithoutEdits : Type 0
IsKeptWithoutEdits = (text edited : List ℕ) (left : ℕ) → Edited text 0 [] edited left → (edited ≡ text) × (left ≡ 0)

-- the edit has the text that it replaces
abbrev pub ReplacesItself : List ℕ → Edit → Type 0
ReplacesItself text edit = string_bytes edit.text ≡ slice_range text edit.start edit.end

-- edits that replace parts of a text by the same texts keep it
abbrev pub IsKeptByItsOwnTexts : Type 0
IsKeptByItsOwnTexts =
    (text edited : List ℕ) (edits : List Edit) (left : ℕ) → All (ReplacesItself text) edits
    → Edited text 0 edits edited left → edited ≡ text
