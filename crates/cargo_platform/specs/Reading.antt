-- How the calls of `next` go through the cut of a text.
use Rattle.std.specs.Prelude.{◌≡◌, ◌⊎◌, ℕ, ◌+◌, ◌-◌, ◌*◌, ◌≤◌, Bool, true, false, List, [], ◌∷◌, length, drop, Option}
use Rattle.std.specs.Prelude.{Some, None, Result, Ok, Err, IsFalse, if◌then◌else◌}
use Rattle.std.specs.Str.{IsCharBoundary, chars}
use Rattle.cargo_platform.specs.declared.tokens.Spanned.{Spanned}
use Rattle.cargo_platform.specs.declared.tokens.TokenFault.{TokenFault}
use Rattle.cargo_platform.specs.Chars.{is_space}
use Rattle.cargo_platform.specs.Tokens.{Placed, placed}
use Rattle.cargo_platform.specs.Cut.{AreSpaces, Item, Token, Lexical, Nothing, Comes, is_token}

-- how far a tokenizer got in its text, whether it has returned the fault of the tail, and its looks so far
pub record Progress : Type 0 where
  pub text : List ℕ
  pub place : ℕ
  pub failed : Bool
  pub looks : ℕ

-- what a call of `next` returned
abbrev pub given : Option (Result Spanned TokenFault) → Item
given None = Nothing
given (Some (Ok s)) = Token (placed s)
given (Some (Err f)) = Lexical f.kind f.at

abbrev pub is_lexical : Item → Bool
is_lexical (Token t) = false
is_lexical (Lexical fault at) = true
is_lexical Nothing = false

-- the item that comes next is returned, and the text continues after it
pub record Gives (old new : Progress) (item : Item) : Type 0 where
  pub going : old.failed ≡ false
  pub same_text : new.text ≡ old.text
  pub comes : Comes old.text old.place item new.place
  pub failed_is : new.failed ≡ is_lexical item

-- A call of `next`: the progress before it, what it returned, and the progress after it. It returns what comes next,
-- and after a fault nothing.
abbrev pub NextGives : Progress → Option (Result Spanned TokenFault) → Progress → Type 0
NextGives old r new = Gives old new (given r) ⊎ ((old.failed ≡ true) × (r ≡ None) × (new ≡ old))

-- a token and a fault begin between characters
abbrev pub BeginsCharacter : List ℕ → Option (Result Spanned TokenFault) → Type 0
BeginsCharacter text None = Unit {0}
BeginsCharacter text (Some (Ok s)) = IsCharBoundary text s.start
BeginsCharacter text (Some (Err f)) = IsCharBoundary text f.at

-- the number of characters from a position on
abbrev pub characters_from : List ℕ → ℕ → ℕ
characters_from text at = length (chars (drop at text))

-- there were at least as many looks as the text has characters before the position
abbrev pub IsLookedTo : List ℕ → ℕ → ℕ → Type 0
IsLookedTo text to looks = characters_from text 0 ≤ looks + characters_from text to

-- One call of `next`, with the position that it reached and its looks so far. A look finds what is at one position, a
-- character or the end, and counts one. A scan counts each byte that it compares: sixteen for a block of sixteen that
-- are compared at once, and one for any other byte or the end.
pub record NextCall (old : Progress) (r : Option (Result Spanned TokenFault)) (new : Progress) : Type 0 where
  pub gives : NextGives old r new
  pub begins : BeginsCharacter old.text r
  pub reached : IsCharBoundary new.text new.place
  -- until a fault: at least one for each character before the position, and one for what is there, a character or the
  -- end
  pub at_least : new.failed ≡ false → characters_from new.text 0 + 1 ≤ new.looks + characters_from new.text new.place
  -- and at most nine for each of them, and one
  pub at_most : new.failed ≡ false →
      new.looks + 9 * characters_from new.text new.place ≤ 9 * characters_from new.text 0 + 1
  -- at any time: at most nine for each character of the text, and one
  pub at_most_ever : new.looks ≤ 9 * characters_from new.text 0 + 1
  -- this call made at most nine for each character that it moved past, and one
  pub call : new.failed ≡ false →
      new.looks + 9 * characters_from new.text new.place ≤ old.looks + 9 * characters_from old.text old.place + 1
  -- at any time: at most nine for each character that was left, and one
  pub call_ever : new.looks ≤ old.looks + 9 * characters_from old.text old.place + 1

-- the greatest number of results before the last None
abbrev pub results_left : Progress → ℕ
results_left p = if p.failed then 0 else length p.text - p.place + 1

-- the text from the first character that is no space, from a position on
pub record IsRestFrom (text : List ℕ) (from : ℕ) (rest : List ℕ) : Type 0 where
  pub start : ℕ
  pub apart : AreSpaces text from start
  pub bytes : rest ≡ drop start text
  pub begins : (b : ℕ) × (after : List ℕ) × (rest ≡ b ∷ after) × IsFalse (is_space b)

-- from this progress on, calls return these tokens one after another, and then a fault or nothing, at this position
abbrev pub GivesEach : Progress → List Placed → ℕ → Type 0
GivesEach old [] tail =
    (last : Item) × (new : Progress) × IsFalse (is_token last) × Gives old new last × (new.place ≡ tail)
GivesEach old (t ∷ ts) tail = (new : Progress) × Gives old new (Token t) × GivesEach new ts tail

-- from the start of a text, calls return these tokens, and then a fault at this position, or nothing at the end
abbrev pub GoesThrough : List ℕ → List Placed → ℕ → Type 0
GoesThrough text ts tail = GivesEach (record { text = text; place = 0; failed = false; looks = 0 }) ts tail
