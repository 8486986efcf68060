-- A text after edits.
use Rattle.std.specs.Prelude.{◌≤◌, ◌+◌, ℕ, List, [], ◌∷◌, ◌++◌, drop, slice_range, string_bytes}
use Rattle.std.specs.Str.{IsCharBoundary}
use Rattle.text_edits.specs.declared.edits.Edit.{Edit}

-- The edit can be applied to the text from this byte on: it begins there or later, does not end before it begins, and
-- both ends are in the text, between characters.
pub record Fits (text : List ℕ) (at : ℕ) (edit : Edit) : Type 0 where
  pub after : at ≤ edit.start
  pub ordered : edit.start ≤ edit.end
  pub start : IsCharBoundary text edit.start
  pub end : IsCharBoundary text edit.end

-- The text from this byte on is edited to these bytes, and this many edits are left out. After the last edit, the text
-- is kept. An edit that fits is applied: what is before it is kept, its text follows, and then the text after it is
-- edited. An edit that does not fit is left out.
pub data Edited : List ℕ → ℕ → List Edit → List ℕ → ℕ → Type 0 where
  ends : (text : List ℕ) (at : ℕ) → Edited text at [] (drop at text) 0
  applied : (text : List ℕ) (at : ℕ) (edit : Edit) (edits : List Edit) (rest : List ℕ) (left : ℕ)
      → Fits text at edit → Edited text edit.end edits rest left
      → Edited text at (edit ∷ edits) (slice_range text at edit.start ++ (string_bytes edit.text ++ rest)) left
  left_out : (text : List ℕ) (at : ℕ) (edit : Edit) (edits : List Edit) (rest : List ℕ) (left : ℕ)
      → (Fits text at edit → ⊥) → Edited text at edits rest left → Edited text at (edit ∷ edits) rest (left + 1)
