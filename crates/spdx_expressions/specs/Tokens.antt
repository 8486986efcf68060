-- The tokens of a text: brackets, slashes and words, and their positions. A text is the list of its bytes in UTF-8.
use Rattle.std.specs.Prelude.{ℕ, ◌+◌, Bool, true, false, not, ◌||◌, ◌&&◌, ◌==◌, if◌then◌else◌, List, [], ◌∷◌, map}
use Rattle.spdx_expressions.specs.declared.tokens.Token.{Token}
use Rattle.spdx_expressions.specs.declared.tokens.Token.TheVariants as token
use Rattle.spdx_expressions.specs.declared.tokens.Spanned.{Spanned}

-- U+0020 or U+0009, the white space of RFC 5234, in whose notation the annex states its grammar
abbrev pub is_space : ℕ → Bool
is_space b = b == 0x20 || b == 0x09

-- `(`, `)` and `/`
abbrev pub is_mark : ℕ → Bool
is_mark b = b == 0x28 || b == 0x29 || b == 0x2F

-- any other byte, including those of characters that no identifier has
abbrev pub is_word_byte : ℕ → Bool
is_word_byte b = not (is_space b || is_mark b)

-- a token; a word has its bytes
pub data Lexeme : Type 0 where
  LeftBracket : Lexeme
  RightBracket : Lexeme
  Slash : Lexeme
  Word : (bytes : List ℕ) → Lexeme

-- a token, and the positions in the text at which it begins and ends
pub record Placed : Type 0 where
  pub token : Lexeme
  pub start : ℕ
  pub end : ℕ

-- the token of a mark
abbrev pub mark : ℕ → Lexeme
mark b = if b == 0x28 then LeftBracket else (if b == 0x29 then RightBracket else Slash)

abbrev pub is_word : Lexeme → Bool
is_word LeftBracket = false
is_word RightBracket = false
is_word Slash = false
is_word (Word bytes) = true

-- the bytes of a word
abbrev pub bytes_of : Lexeme → List ℕ
bytes_of LeftBracket = []
bytes_of RightBracket = []
bytes_of Slash = []
bytes_of (Word bytes) = bytes

-- a token of one byte
abbrev pub single : Lexeme → ℕ → Placed
single t at = record { token = t; start = at; end = at + 1 }

-- the word, with one byte more before it
abbrev pub longer : ℕ → ℕ → Placed → Placed
longer b at t = record { token = Word (b ∷ bytes_of t.token); start = at; end = t.end }

-- tokens with one byte of a word before them: it becomes part of a word that begins right after it, or else is a word
abbrev pub with_byte : ℕ → ℕ → List Placed → List Placed
with_byte b at [] = single (Word (b ∷ [])) at ∷ []
with_byte b at (t ∷ ts) =
    if is_word t.token && t.start == at + 1
    then longer b at t ∷ ts
    else single (Word (b ∷ [])) at ∷ t ∷ ts

-- The tokens of a text that begins at a position: a space is in no token, a mark is a token, and so are the consecutive
-- other bytes up to the next space or mark.
abbrev pub tokens_from : ℕ → List ℕ → List Placed
tokens_from at [] = []
tokens_from at (b ∷ bs) =
    if is_space b
    then tokens_from (at + 1) bs
    else (if is_mark b
    then single (mark b) at ∷ tokens_from (at + 1) bs
    else with_byte b at (tokens_from (at + 1) bs))

abbrev pub lexemes : List Placed → List Lexeme
lexemes ts = map (λ t. t.token) ts

-- the tokens of a text, without their positions
abbrev pub tokens : List ℕ → List Lexeme
tokens text = lexemes (tokens_from 0 text)

-- the lexeme that a token of the program means
abbrev pub lexeme : Token → Lexeme
lexeme token.LeftBracket = LeftBracket
lexeme token.RightBracket = RightBracket
lexeme token.Slash = Slash
lexeme (token.Word word) = Word word.now

abbrev pub placed : Spanned → Placed
placed s = record { token = lexeme s.token; start = s.start; end = s.end }
