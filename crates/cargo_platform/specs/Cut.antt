-- How a text is cut into tokens: what comes next at a position, and the rest with which no token begins.
use Rattle.std.specs.Prelude.{◌≡◌, ◌⊎◌, ℕ, ◌≤◌, Bool, true, false, List, [], ◌∷◌, ◌++◌, map, length, drop, codes}
use Rattle.std.specs.Prelude.{slice_range, IsTrue, IsFalse, not, ◌&&◌, ◌==◌, bytes_eq}
use Rattle.std.specs.List.{list_all}
use Rattle.cargo_platform.specs.declared.tokens.TokenFaultKind.{TokenFaultKind}
use Rattle.cargo_platform.specs.declared.tokens.TokenFaultKind.TheVariants.{UnterminatedString, UnexpectedChar}
use Rattle.cargo_platform.specs.declared.tokens.TokenFaultKind.TheVariants.{MissingIdentifier}
use Rattle.cargo_platform.specs.Chars.{is_identifier_start, is_identifier_rest, is_space, is_quote}
use Rattle.cargo_platform.specs.Chars.{is_known_start, starts, BeginsWith}
use Rattle.cargo_platform.specs.Tokens.{Lexeme, LeftParen, RightParen, Ident, Comma, Equals, String, Placed, written}
use Rattle.cargo_platform.specs.Tokens.{IsWellWritten}

-- the bytes of the text from one position up to another
pub record IsPiece (text : List ℕ) (start end : ℕ) (piece : List ℕ) : Type 0 where
  pub ordered : start ≤ end
  pub inside : end ≤ length text
  pub bytes : slice_range text start end ≡ piece

-- the token is well written, and the bytes from its start to its end are its written form
abbrev pub IsWrittenAt : List ℕ → Placed → Type 0
IsWrittenAt text t = IsWellWritten t.token × IsPiece text t.start t.end (written t.token)

-- all characters from one position up to another are spaces
abbrev pub AreSpaces : List ℕ → ℕ → ℕ → Type 0
AreSpaces text start end = (spaces : List ℕ) × IsPiece text start end spaces × IsTrue (list_all is_space spaces)

-- the token does not continue in what follows: no rest character follows an identifier, and no `#` an unmarked `r`
abbrev pub EndsBefore : Lexeme → List ℕ → Type 0
EndsBefore (Ident raw name) rest =
    IsFalse (starts is_identifier_rest rest)
    × IsFalse (not raw && bytes_eq name (codes "r") && starts (λ c. c == 0x23) rest)
EndsBefore LeftParen rest = Unit {0}
EndsBefore RightParen rest = Unit {0}
EndsBefore Comma rest = Unit {0}
EndsBefore Equals rest = Unit {0}
EndsBefore (String value) rest = Unit {0}

-- the text begins a lexical fault
abbrev pub BeginsFault : List ℕ → TokenFaultKind → Type 0
-- a `"` that no second `"` follows
BeginsFault text UnterminatedString =
    (rest : List ℕ) × BeginsWith text 0x22 rest × IsTrue (list_all (λ c. not (is_quote c)) rest)
-- `r#` at the end of the text
BeginsFault text MissingIdentifier = text ≡ codes "r#"
-- `r#` and a character that is no identifier start, or any other character that no token begins with
BeginsFault text (UnexpectedChar c) =
    ((after rest : List ℕ) × (text ≡ codes "r#" ++ after) × BeginsWith after c rest × IsFalse (is_identifier_start c))
    ⊎ ((rest : List ℕ) × BeginsWith text c rest × IsFalse (is_known_start c))

-- what comes next: a token, or a lexical fault and its place, or nothing
pub data Item : Type 0 where
  Token : (t : Placed) → Item
  Lexical : (fault : TokenFaultKind) (at : ℕ) → Item
  Nothing : Item

-- the item that comes next from a position on, and the position where the text continues after it
abbrev pub Comes : List ℕ → ℕ → Item → ℕ → Type 0
Comes text from (Token t) to =
    AreSpaces text from t.start × IsWrittenAt text t × EndsBefore t.token (drop t.end text) × (to ≡ t.end)
Comes text from (Lexical fault at) to = AreSpaces text from at × BeginsFault (drop at text) fault × (to ≡ at)
Comes text from Nothing to = AreSpaces text from (length text) × (to ≡ length text)

-- the tokens that come one after another, and the item after them
abbrev pub ComesBehind : List ℕ → ℕ → List Placed → Item → ℕ → Type 0
ComesBehind text from [] next to = Comes text from next to
ComesBehind text from (t ∷ ts) next to = Comes text from (Token t) t.end × ComesBehind text t.end ts next to

abbrev pub is_token : Item → Bool
is_token (Token t) = true
is_token (Lexical fault at) = false
is_token Nothing = false

-- The rest of a text from a position on: its tokens, one after another, and the position at which its tail begins,
-- where a lexical fault comes next, or nothing.
pub record IsCutFrom (text : List ℕ) (from : ℕ) (ts : List Placed) (tail : ℕ) : Type 0 where
  pub last : Item
  pub no_token : IsFalse (is_token last)
  pub comes : ComesBehind text from ts last tail

-- the cut of a text
abbrev pub IsCut : List ℕ → List Placed → ℕ → Type 0
IsCut text ts tail = IsCutFrom text 0 ts tail

abbrev pub lexemes : List Placed → List Lexeme
lexemes ts = map (λ t. t.token) ts
