-- Consequences of the definitions.
use Rattle.std.specs.Prelude.{◌≡◌, ℕ, false, ◌==◌, ◌||◌, List, All}
use Rattle.html_pages.specs.Escaping.{StandFor}

-- what stands for a text has no `<`, `>`, `"` and `'`
abbrev pub HasNoMark : Type 0
HasNoMark =
    (page text : List ℕ) → StandFor page text → All (λ c. (c == 60 || c == 62 || c == 34 || c == 39) ≡ false) page

-- it stands for exactly one text
abbrev pub HasOneMeaning : Type 0
HasOneMeaning = (page text other : List ℕ) → StandFor page text → StandFor page other → text ≡ other
