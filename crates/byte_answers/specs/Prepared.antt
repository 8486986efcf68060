-- Prepared facts: the texts of facts, an entry of an index for each fact, a filter, and two numbers.
use Rattle.std.specs.Prelude.{◌≡◌, ◌⊎◌, ◌↔◌, ◌<◌, ◌^◌, ⊤, ℕ, suc, List, [], ◌∷◌, ◌++◌, length}
use Rattle.std.specs.Prelude.{Option, Some, None, IsTrue, Bool, if◌then◌else◌, nat_lt, ◌-◌, ◌%◌, drop, get_or}
use Rattle.std.specs.Int.{to_le_bytes, from_le_bytes}
use Rattle.std.specs.FinSet.{contains}
use mir.Syntax.{w64}
use Rattle.cargo_platform.specs.Trees.{CfgValue, Condition}
use Rattle.cargo_platform.specs.Facts.{Pair, FactSet, fact_set, truth_of_condition}
use Rattle.cargo_platform.specs.Lines.{lines_of}
use Rattle.cargo_platform.specs.FactLines.{SpellFacts}
use Rattle.byte_answers.specs.declared.prepared.TheConstants.{FORMAT}
use Rattle.byte_answers.specs.declared.prepared.Sought.{Sought}
use Rattle.byte_answers.specs.declared.prepared.LastEntry.{LastEntry}
use Rattle.byte_answers.specs.Outcomes.{IsWritten}
use Rattle.byte_answers.specs.Flat.{flat_condition}

-- the name of a fact, followed by its value
abbrev pub value_text : Option (List ℕ) → List ℕ
value_text None = []
value_text (Some value) = value

abbrev pub fact_texts : Pair → List ℕ
fact_texts q = q.name ++ value_text q.value

-- 0 for a name alone, and 1 more than the length of the value for a pair
abbrev pub value_mark : Option (List ℕ) → ℕ
value_mark None = 0
value_mark (Some value) = suc (length value)

-- an entry: where the texts of its fact begin, the length of the name, and the mark of the value
pub record Entry : Type 0 where
  pub start : ℕ
  pub name_size : ℕ
  pub mark : ℕ

unfoldable pub entry_bytes : Entry → List ℕ
entry_bytes e = to_le_bytes w64 e.start ++ to_le_bytes w64 e.name_size ++ to_le_bytes w64 e.mark

-- each number of an entry fits its 8 bytes
abbrev pub IsEntry : Entry → Type 0
IsEntry e = (e.start < 2 ^ 64) × (e.name_size < 2 ^ 64) × (e.mark < 2 ^ 64)

abbrev pub AreEntries : List Entry → Type 0
AreEntries [] = ⊤
AreEntries (e ∷ es) = IsEntry e × AreEntries es

-- the index of entries, of which the last one comes first in the list
abbrev pub index_of : List Entry → List ℕ
index_of [] = []
index_of (e ∷ es) = index_of es ++ entry_bytes e

-- the texts, what follows them, the length of the texts, and the number of this format
abbrev pub with_numbers : List ℕ → List ℕ → List ℕ
with_numbers texts rest = texts ++ (rest ++ (to_le_bytes w64 (length texts) ++ to_le_bytes w64 FORMAT))

-- the hash of the texts of a fact: the number that their last 8 bytes are, modulo 251, or 0 if they are fewer
unfoldable pub hash : List ℕ → ℕ
hash texts = if nat_lt (length texts) 8 then 0 else from_le_bytes w64 (drop (length texts - 8) texts) % 251

-- a filter admits a fact with these texts if the byte at their hash is 1
abbrev pub Admits : List ℕ → List ℕ → Type 0
Admits filter texts = get_or filter (hash texts) 0 ≡ 1

-- these bytes are at this place of a text
abbrev pub IsAt : List ℕ → ℕ → List ℕ → Type 0
IsAt text start part = (front rest : List ℕ) × ((text ≡ front ++ (part ++ rest)) × (length front ≡ start))

-- the fact is that of the entry
abbrev pub IsFactOf : List ℕ → Entry → Pair → Type 0
IsFactOf texts e q =
    IsAt texts e.start (fact_texts q) × (e.name_size ≡ length q.name) × (e.mark ≡ value_mark q.value)

-- some entry has the fact
abbrev pub HasFactOf : List ℕ → List Entry → Pair → Type 0
HasFactOf texts [] q = ⊥
HasFactOf texts (e ∷ es) q = IsFactOf texts e q ⊎ HasFactOf texts es q

-- the set consists of the facts of the entries that the filter admits
abbrev pub Means : List ℕ → List ℕ → List ℕ → FactSet → Type 0
Means texts index filter s =
    (es : List Entry) × (AreEntries es × (index_of es ≡ index)
    × ((q : Pair) → IsTrue (contains s q) ↔ (Admits filter (fact_texts q) × HasFactOf texts es q)))

-- the bytes stand for this set of facts
abbrev pub StandFor : List ℕ → FactSet → Type 0
StandFor bytes s =
    (texts index filter : List ℕ) × ((length filter ≡ 256) × (with_numbers texts (index ++ filter) ≡ bytes)
    × Means texts index filter s)

-- whether the condition of flat bytes is true on a target with this name and the facts for which prepared bytes stand
abbrev pub IsPreparedMatch : List ℕ → List ℕ → List ℕ → Bool → Type 0
IsPreparedMatch flat name prepared holds =
    (p : Condition) × ((s : FactSet) × ((flat_condition p ≡ flat) × StandFor prepared s
    × (holds ≡ truth_of_condition name s p)))

-- the lines are facts, and bytes that stand for their set are written to the buffer
abbrev pub ArePrepared : List ℕ → ℕ → List ℕ → List ℕ → Type 0
ArePrepared lines needed old new =
    (facts : List CfgValue) × ((bytes : List ℕ) × (SpellFacts (lines_of lines) facts
    × StandFor bytes (fact_set facts) × IsWritten bytes needed old new))

-- a fact to look up is this one
abbrev pub IsSought : Sought → Pair → Type 0
IsSought sought q =
    (sought.texts.now ≡ fact_texts q) × (sought.name_size ≡ length q.name)
    × (sought.value_mark ≡ value_mark q.value)

-- the entry that was read
abbrev pub entry_of : LastEntry → Entry
entry_of l = record { start = l.start; name_size = l.name_size; mark = l.value_mark }
