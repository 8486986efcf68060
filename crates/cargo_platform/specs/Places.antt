-- Texts in one string, their places there, and the order in which an index keeps them.
use Rattle.std.specs.Prelude.{◌≡◌, ℕ, min, Bool, false, ◌&&◌, ◌||◌, nat_le, nat_lt, List, [], ◌∷◌, length, slice_index}
use Rattle.std.specs.Prelude.{slice_range, if◌then◌else◌, IsTrue}
use Rattle.std.specs.declared.cmp.Ordering.{Ordering}
use Rattle.std.specs.Int.{from_be_bytes, w32}
use Rattle.std.specs.Ordering.{ordering_then, nat_cmp}
use Rattle.cargo_platform.specs.declared.places.Place.{Place}
use Rattle.cargo_platform.specs.declared.places.HashedText.{HashedText}
use Rattle.cargo_platform.specs.declared.places.HashedPlace.{HashedPlace}
use Rattle.cargo_platform.specs.declared.places.PairPlace.{PairPlace}
use Rattle.cargo_platform.specs.Trees.{CfgValue, Alone, KeyPair}
use Rattle.cargo_platform.specs.Key.{text_cmp}

-- ---- places

-- a character of the text begins at the position, or the text ends there
abbrev pub is_boundary : List ℕ → ℕ → Bool
is_boundary text i =
    nat_le i (length text)
    && (nat_le (length text) i || (nat_lt (slice_index text i) 128 || nat_le 192 (slice_index text i)))

-- a text can be at this place
unfoldable pub is_place : List ℕ → Place → Bool
is_place texts p = nat_le p.start p.end && (is_boundary texts p.start && is_boundary texts p.end)

-- the text at a place, and none where no text can be
unfoldable pub text_at : List ℕ → Place → List ℕ
text_at texts p = if is_place texts p then slice_range texts p.start p.end else []

-- this text is at the place
pub record HasText (texts : List ℕ) (p : Place) (text : List ℕ) : Type 0 where
  pub is_in : IsTrue (is_place texts p)
  pub text_is : text_at texts p ≡ text

-- every text keeps its place
pub record KeepsTexts (old new : List ℕ) : Type 0 where
  pub kept : (p : Place) → IsTrue (is_place old p) → HasText new p (text_at old p)

-- ---- hashes

-- the length of a text, up to 255, and its first three bytes, as one number
unfoldable pub text_hash : List ℕ → ℕ
text_hash text =
    from_be_bytes w32
    (min 255 (length text) ∷ slice_index text 0 ∷ slice_index text 1 ∷ slice_index text 2 ∷ [])

-- a text with its hash
pub record Hashed : Type 0 where
  pub hash : ℕ
  pub text : List ℕ

abbrev pub hashed_in : HashedText → Hashed
hashed_in t = record { hash = t.hash; text = t.text.now }

abbrev pub hashed_at : List ℕ → HashedPlace → Hashed
hashed_at texts p = record { hash = p.hash; text = text_at texts p.place }

-- this text is at the place, with its hash
pub record HasHashed (texts : List ℕ) (p : HashedPlace) (text : List ℕ) : Type 0 where
  pub place : HasText texts p.place text
  pub hash_is : p.hash ≡ text_hash text

-- by hash, and then by bytes
abbrev pub hashed_cmp : Hashed → Hashed → Ordering
hashed_cmp a b = ordering_then (nat_cmp a.hash b.hash) (text_cmp a.text b.text)

-- the order of names at two places
abbrev pub name_order : List ℕ → HashedPlace → HashedPlace → Ordering
name_order texts p q = hashed_cmp (hashed_at texts p) (hashed_at texts q)

-- ---- pairs

-- a key, and a value with its hash
pub record HashedPair : Type 0 where
  pub key : List ℕ
  pub value : Hashed

abbrev pub hashed_pair_at : List ℕ → PairPlace → HashedPair
hashed_pair_at texts p = record { key = text_at texts p.key; value = hashed_at texts p.value }

-- this key and this value are at the places
pub record HasPair (texts : List ℕ) (p : PairPlace) (key value : List ℕ) : Type 0 where
  pub has_key : HasText texts p.key key
  pub has_value : HasHashed texts p.value value

-- by value, and then by key
abbrev pub hashed_pair_cmp : HashedPair → HashedPair → Ordering
hashed_pair_cmp a b = ordering_then (hashed_cmp a.value b.value) (text_cmp a.key b.key)

-- the order of pairs at two places
abbrev pub pair_order : List ℕ → PairPlace → PairPlace → Ordering
pair_order texts p q = hashed_pair_cmp (hashed_pair_at texts p) (hashed_pair_at texts q)

-- ---- facts

-- the name, and the key and its value, at these places
abbrev pub name_at : List ℕ → HashedPlace → CfgValue
name_at texts p = Alone (record { raw = false; name = text_at texts p.place })

abbrev pub pair_at : List ℕ → PairPlace → CfgValue
pair_at texts p = KeyPair (record { raw = false; name = text_at texts p.key }) (text_at texts p.value.place)

-- the hashes of names, and those of values, are those of the texts at the places
abbrev pub HasNameHash : List ℕ → HashedPlace → Type 0
HasNameHash texts p = p.hash ≡ text_hash (text_at texts p.place)

abbrev pub HasValueHash : List ℕ → PairPlace → Type 0
HasValueHash texts p = HasNameHash texts p.value
