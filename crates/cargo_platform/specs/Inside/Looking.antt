-- What a look at a position of a text finds, and the cost of looks.
use Rattle.std.specs.Prelude.{◌≡◌, ◌≢◌, ◌⊎◌, ℕ, ◌+◌, ◌-◌, ◌*◌, ◌<◌, ◌≤◌, ◌^◌, Bool, true, false, List, ◌∷◌, ◌++◌}
use Rattle.std.specs.Prelude.{length}
use Rattle.std.specs.Prelude.{drop, min, slice_index, not}
use Rattle.std.specs.Prelude.{encode_utf8, Option, Some, None}
use Rattle.std.specs.Char.{IsScalar, len_utf8}
use Rattle.std.specs.Str.{IsUtf8, IsCharBoundary, chars}
use Rattle.cargo_platform.specs.Chars.{is_quote}
use Rattle.cargo_platform.specs.declared.source.Look.{Look}
use Rattle.cargo_platform.specs.declared.tokens.TokenFaultKind.{TokenFaultKind}
use Rattle.cargo_platform.specs.declared.source.Look.TheVariants.{End, Ascii, Wide}
use Rattle.cargo_platform.specs.Cut.{BeginsFault, Lexical}
use Rattle.cargo_platform.specs.Reading.{characters_from}
use Rattle.cargo_platform.specs.Faults.{span_of}

-- the character c begins at the position
pub record IsCharAt (text : List ℕ) (at c : ℕ) : Type 0 where
  pub scalar : IsScalar c
  pub within : at < length text
  pub fits : at + len_utf8 c ≤ length text
  pub boundary : IsCharBoundary text (at + len_utf8 c)
  -- a byte below 128 is a character, and a character below 128 is a byte
  pub byte : slice_index text at < 128 → c ≡ slice_index text at
  pub inside : (i : ℕ) → at ≤ i → i < at + len_utf8 c → slice_index text i < 128 → c ≡ slice_index text i
  pub ascii : c < 128 → slice_index text at ≡ c
  pub bytes : drop at text ≡ encode_utf8 c ++ drop (at + len_utf8 c) text
  pub chars : chars (drop at text) ≡ c ∷ chars (drop (at + len_utf8 c) text)
  pub fewer : characters_from text at ≡ characters_from text (at + len_utf8 c) + 1

-- what a look at a position finds: the end of the text, or the character that begins there
abbrev pub Shows : List ℕ → ℕ → Look → Type 0
Shows text at End = at ≡ length text
Shows text at (Ascii byte) = (byte < 128) × IsCharAt text at byte
Shows text at (Wide c) = (128 ≤ c) × IsCharAt text at c

-- the character that a look found, unless it found the end
abbrev pub character_of : Look → Option ℕ
character_of End = None
character_of (Ascii byte) = Some byte
character_of (Wide c) = Some c

-- what is at the position, if it was looked at before
abbrev pub ShowedBefore : List ℕ → ℕ → Option Look → Type 0
ShowedBefore text at None = Unit {0}
ShowedBefore text at (Some look) = Shows text at look

-- the looks that are still needed at a position
abbrev pub unseen : Option Look → ℕ
unseen None = 1
unseen (Some look) = 0

-- between two positions there are at most as many characters as bytes, and at most four times as many bytes
pub record AreBetween (text : List ℕ) (from to : ℕ) : Type 0 where
  pub characters : ℕ
  pub all : characters_from text from ≡ characters + characters_from text to
  pub few : characters ≤ to - from
  pub many : to - from ≤ 4 * characters

-- The count of looks rises from `old` to `new` by at least the number of characters between the two positions and
-- `beside`, and by at most nine for each of these characters and `over`.
pub record Costs (text : List ℕ) (from to over beside old new : ℕ) : Type 0 where
  pub forward : characters_from text to ≤ characters_from text from
  pub grows : old ≤ new
  pub at_most : new + 9 * characters_from text to ≤ old + 9 * characters_from text from + over
  -- unless the greatest count is reached
  pub at_least : new < 2 ^ 64 - 1 → old + characters_from text from + beside ≤ new + characters_from text to

-- The number of bytes that a scan of a run compares. It compares one block of sixteen after another while there are
-- enough bytes left, the last of which has the byte that ends the scan, and otherwise one byte after another with the
-- byte that ends it.
pub record Compares (left run count : ℕ) : Type 0 where
  pub blocks : ℕ
  pub passed : 16 * blocks ≤ run
  pub all : (run < 16 * blocks + 16) × (16 * blocks + 16 ≤ left) × (count ≡ 16 * blocks + 16)
      ⊎ (left < 16 * blocks + 16) × (count ≡ run + 1)

-- the count rises by this number of looks, up to the greatest count
abbrev pub Adds : ℕ → ℕ → ℕ → Type 0
Adds many old new = new ≡ min (old + many) (2 ^ 64 - 1)

-- a scan moved from one position to another: each byte that it compared was counted, and `after` looks more
pub record Scans (text : List ℕ) (from to after old new : ℕ) : Type 0 where
  pub count : ℕ
  pub compared : Compares (length text - from) (to - from) count
  pub counted : Adds (count + after) old new

-- The state of a tokenizer: until a fault, the characters before the position were looked at, and, once it began, also
-- what is at the position.
pub record IsStanding (text : List ℕ) (place : ℕ) (seen : Option Look) (failed : Bool) (looks : ℕ) : Type 0 where
  pub short : characters_from text 0 < 2 ^ 63
  pub reached : IsCharBoundary text place
  pub sees : ShowedBefore text place seen
  pub at_least :
      failed ≡ false → characters_from text 0 + 1 ≤ looks + characters_from text place + unseen seen
  pub at_most :
      failed ≡ false → looks + 9 * characters_from text place + unseen seen ≤ 9 * characters_from text 0 + 1
  pub at_most_ever : looks ≤ 9 * characters_from text 0 + 1

-- the fault that a text begins with, if it is known
abbrev pub IsFound : List ℕ → Option TokenFaultKind → Type 0
IsFound text None = Unit {0}
IsFound text (Some kind) = BeginsFault text kind

-- the fault was looked at up to the end of its span
abbrev pub IsSeenFault : List ℕ → ℕ → Option TokenFaultKind → ℕ → Type 0
IsSeenFault text place None looks = Unit {0}
IsSeenFault text place (Some kind) looks =
    characters_from text 0 ≤ looks + characters_from text (span_of text false (Lexical kind place)).end

-- The count of looks rises by at least the number of characters from the fault's position to the end of its span,
-- except for `before` of them, which were looked at earlier.
pub record FindsFault (text : List ℕ) (at : ℕ) (kind : TokenFaultKind) (before old new : ℕ) : Type 0 where
  pub grows : old ≤ new
  -- unless the greatest count is reached
  pub at_least :
      new < 2 ^ 64 - 1
      → old + characters_from text at
      ≤ new + characters_from text (span_of text false (Lexical kind at)).end + before

-- The state of a reader: it is at no space, has seen what is there, and the text has this many bytes. Until a fault is
-- known, the characters before the position were looked at, and also what is at the position.
pub record IsReadingAt (text : List ℕ) (place : ℕ) (seen : Look) (fault : Option TokenFaultKind) (looks long : ℕ)
    : Type 0 where
  pub utf8 : IsUtf8 text
  pub short : characters_from text 0 < 2 ^ 63
  pub measured : long ≡ length text
  pub reached : IsCharBoundary text place
  pub sees : Shows text place seen
  pub past : slice_index text place ≢ 0x20
  pub found : IsFound (drop place text) fault
  pub whole : fault ≡ None → characters_from text 0 + 1 ≤ looks + characters_from text place
  pub at_least : characters_from text 0 ≤ looks + characters_from text place
  pub seen_fault : IsSeenFault text place fault looks
  pub at_most : fault ≡ None → looks + 9 * characters_from text place ≤ 9 * characters_from text 0 + 1
  pub at_most_ever : looks ≤ 9 * characters_from text 0 + 1

-- a byte of a string's value
abbrev pub is_no_quote : ℕ → Bool
is_no_quote b = not (is_quote b)

-- of `most` bytes from a position on, the first `run` pass a test, and the next one fails it
pub record IsRun (test : ℕ → Bool) (bytes : List ℕ) (from most run : ℕ) : Type 0 where
  pub within : run ≤ most
  pub passes : (i : ℕ) → from ≤ i → i < from + run → test (slice_index bytes i) ≡ true
  pub fails : run < most → test (slice_index bytes (from + run)) ≡ false
