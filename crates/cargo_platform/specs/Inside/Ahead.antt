-- For proofs: what is ahead of a reader, and how it moves from one token to the next.
use Rattle.std.specs.Prelude.{◌≡◌, ℕ, ◌-◌, List, [], ◌∷◌, length}
use Rattle.cargo_platform.specs.Tokens.{Placed}
use Rattle.cargo_platform.specs.Cut.{AreSpaces, Item, Token, Comes}
use Rattle.cargo_platform.specs.Reading.{IsLookedTo}

-- a text, and the position that was reached in it
pub record Ahead : Type 0 where
  pub text : List ℕ
  pub place : ℕ

-- what is ahead of a reader, and its looks so far
pub record Standing : Type 0 where
  pub ahead : Ahead
  pub looks : ℕ

-- there were at least as many looks as there are characters before the position
abbrev pub IsSeenTo : Standing → ℕ → Type 0
IsSeenTo s to = IsLookedTo s.ahead.text to s.looks

-- this item comes next
pub record NextIs (l : Ahead) (item : Item) : Type 0 where
  pub to : ℕ
  pub comes : Comes l.text l.place item to

-- this token is taken, and the spaces after it
pub record GoesPast (old new : Ahead) (t : Placed) : Type 0 where
  pub same_text : new.text ≡ old.text
  pub comes : Comes old.text old.place (Token t) t.end
  pub spaces : AreSpaces old.text t.end new.place

-- these tokens are taken, one after another
abbrev pub Path : Ahead → List Placed → Ahead → Type 0
Path old [] new = new ≡ old
Path old (t ∷ ts) new = (mid : Ahead) × GoesPast old mid t × Path mid ts new

-- the bytes that are left
abbrev pub bytes_left : Ahead → ℕ
bytes_left l = length l.text - l.place
