-- Which name is meant by a misspelled one.
use Rattle.std.specs.Prelude.{ℕ, ◌≡◌, ◌≤◌, ◌*◌, ◌⊎◌, List, Option, Some, map, length, Contains}
use Rattle.std.specs.Str.{chars}
use Rattle.std.specs.Char.{to_ascii_lowercase}
use Rattle.strsim.specs.Edits.{osa_table}
use Rattle.known_licences.specs.declared.nearest.Near.{Near}

-- the number of edits from one text to the other, whatever the case of ASCII letters: a character is inserted, deleted
-- or changed, or two adjacent ones are swapped
abbrev pub edits : List ℕ → List ℕ → ℕ
edits text name =
    (osa_table (chars (map to_ascii_lowercase text)) (chars (map to_ascii_lowercase name))).last_row
    (length (chars (map to_ascii_lowercase name)))

-- one of the names, which at most a third as many edits as the text has bytes make of the text
abbrev pub IsNear : List (List ℕ) → List ℕ → List ℕ → Type 0
IsNear names text name = Contains names name × (edits text name * 3 ≤ length text)

-- a name that is near, with the number of its edits
abbrev pub IsOffered : List (List ℕ) → List ℕ → Near → Type 0
IsOffered names text near = IsNear names text near.name.now × (near.edits ≡ edits text near.name.now)

abbrev pub IsOneOf : Near → Option Near → Option Near → Type 0
IsOneOf near first other = (first ≡ Some near) ⊎ (other ≡ Some near)
