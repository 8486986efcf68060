-- What is written on a page for a text.
use Rattle.std.specs.Prelude.{◌≡◌, ℕ, Bool, false, ◌==◌, ◌||◌, if◌then◌else◌, List, [], ◌∷◌, ◌++◌, codes}
use Rattle.std.specs.Prelude.{encode_utf8_all}
use Rattle.std.specs.Str.{chars}

-- the characters that begin or end markup: `<`, `>`, `&`, `"` and `'`
abbrev pub is_mark : ℕ → Bool
is_mark c = c == 60 || c == 62 || c == 38 || c == 34 || c == 39

-- the entities, each with the mark that it means
pub data IsEntity : List ℕ → ℕ → Type 0 where
  less : IsEntity (codes "&lt;") 60
  greater : IsEntity (codes "&gt;") 62
  ampersand : IsEntity (codes "&amp;") 38
  quote : IsEntity (codes "&quot;") 34
  apostrophe : IsEntity (codes "&#39;") 39

-- Characters of a page stand for those of a text: for each mark its entity, and every other character for itself. So a
-- mark is on the page only as a part of these entities.
pub data StandFor : List ℕ → List ℕ → Type 0 where
  nothing : StandFor [] []
  plain : (c : ℕ) (page text : List ℕ) → is_mark c ≡ false → StandFor page text → StandFor (c ∷ page) (c ∷ text)
  entity : (e : List ℕ) (c : ℕ) (page text : List ℕ) → IsEntity e c → StandFor page text
      → StandFor (e ++ page) (c ∷ text)

-- the bytes of a page are those of characters that stand for the text
abbrev pub WritesText : List ℕ → List ℕ → Type 0
WritesText page text = (cs : List ℕ) × (page ≡ encode_utf8_all cs) × StandFor cs (chars text)

-- characters that stand for the text are appended to a page
abbrev pub AppendsText : List ℕ → List ℕ → List ℕ → Type 0
AppendsText page text longer = (more : List ℕ) × (longer ≡ page ++ more) × WritesText more text

-- what is written for a character
abbrev pub escape : ℕ → List ℕ
escape c =
    if c == 60 then codes "&lt;"
    else (if c == 62 then codes "&gt;"
    else (if c == 38 then codes "&amp;"
    else (if c == 34 then codes "&quot;"
    else (if c == 39 then codes "&#39;" else c ∷ []))))
