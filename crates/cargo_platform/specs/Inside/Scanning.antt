-- What the parts of a tokenizer find in the text.
use Rattle.std.specs.Prelude.{ℕ, ◌+◌, ◌*◌, ◌<◌, ◌≤◌, List, drop}
use Rattle.std.specs.Str.{IsCharBoundary}
use Rattle.cargo_platform.specs.declared.tokens.Cut.{Cut}
use Rattle.cargo_platform.specs.declared.tokens.TokenFaultKind.{TokenFaultKind}
use Rattle.cargo_platform.specs.Tokens.{Lexeme, lexeme}
use Rattle.cargo_platform.specs.Cut.{IsWrittenAt, EndsBefore, BeginsFault}
use Rattle.cargo_platform.specs.Reading.{characters_from}
use Rattle.cargo_platform.specs.Inside.Looking.{Shows, FindsFault}

-- the whole token is in the text, from the one position to the other
pub record IsTokenAt (text : List ℕ) (token : Lexeme) (start end : ℕ) : Type 0 where
  pub forward : start < end
  pub written : IsWrittenAt text (record { token = token; start = start; end = end })
  pub whole : EndsBefore token (drop end text)

-- a token is cut off from a position on, and what is after it was looked at
pub record IsCutAt (text : List ℕ) (start : ℕ) (cut : Cut) : Type 0 where
  pub stands : IsTokenAt text (lexeme cut.token) start cut.end
  pub boundary : IsCharBoundary text cut.end
  pub sees : Shows text cut.end cut.seen

-- no token begins at a position; `before` characters from there on were looked at earlier, and the looks stay `over`
-- below what the characters from there on allow
pub record BeginsNone (text : List ℕ) (start before over : ℕ) (kind : TokenFaultKind) (old new : ℕ) : Type 0 where
  pub fault : BeginsFault (drop start text) kind
  pub cost : new + over ≤ old + 9 * characters_from text start
  pub finds : FindsFault text start kind before old new
