-- The lines of a text. A line is identified by its number, counted from 1.
use Rattle.std.specs.Prelude.{ℕ, ◌≡◌, ◌≢◌, ◌⊎◌, ◌-◌, ◌==◌, List, [], ◌∷◌, ◌++◌, not, IsTrue, flat_map, slice_index_or}
use Rattle.std.specs.Prelude.{if◌then◌else◌}
use Rattle.std.specs.List.{onto_first, list_all, AllByRecursion}

-- a text and the byte that ends its line
abbrev pub line : List ℕ → List ℕ
line text = text ++ (10 ∷ [])

-- the lines of a text: a newline ends a line, and after the last one there is a line only if a byte follows
abbrev pub lines_of : List ℕ → List (List ℕ)
lines_of [] = []
lines_of (b ∷ bs) = if b == 10 then [] ∷ lines_of bs else onto_first b (lines_of bs)

-- the line with this number, or the empty text if there is none
abbrev pub line_at : List (List ℕ) → ℕ → List ℕ
line_at ls n = slice_index_or ls (n - 1) []

-- the text has no newline
abbrev pub IsUnbroken : List ℕ → Type 0
IsUnbroken text = IsTrue (list_all (λ b. not (b == 10)) text)

-- each line, and the byte that ends it
abbrev pub ended : List (List ℕ) → List ℕ
ended ls = flat_map line ls

-- The lines of a text: none has a newline, and the text is each of them with its end. The last one, if it is not empty,
-- may be without its end.
pub record AreLines (text : List ℕ) (ls : List (List ℕ)) : Type 0 where
  pub unbroken : AllByRecursion IsUnbroken ls
  pub parts : (text ≡ ended ls)
      ⊎ ((front : List (List ℕ)) × (last : List ℕ) × (ls ≡ front ++ last ∷ []) × (last ≢ [])
      × (text ≡ ended front ++ last))
