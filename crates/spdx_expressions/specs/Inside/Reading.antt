-- The reader, token by token.
use Rattle.std.specs.Prelude.{ℕ, suc, zero, ◌+◌, true, ◌≡◌, if◌then◌else◌, List, [], ◌∷◌, ◌++◌}
use Rattle.std.specs.Prelude.{Option, Some, None, codes, bytes_eq}
use Rattle.std.specs.Prelude.{drop, MatchBool, ◌≤◌}
use Rattle.std.specs.Str.{IsCharBoundary}
use Rattle.spdx_expressions.specs.declared.error.Expected.{Expected}
use Rattle.spdx_expressions.specs.declared.error.Expected.TheVariants as expected
use Rattle.std.specs.Prelude.{string_bytes}
use Rattle.spdx_expressions.specs.declared.error.ReadError.{ReadError}
use Rattle.spdx_expressions.specs.declared.error.ReadError.TheVariants as errors
use Rattle.spdx_expressions.specs.declared.error.Refusal.{Refusal}
use Rattle.spdx_expressions.specs.declared.error.Refusal.TheVariants as refusal
use Rattle.spdx_expressions.specs.declared.reader.Reader.{Reader}
use Rattle.spdx_expressions.specs.Tokens.{Lexeme, LeftBracket, RightBracket, Slash, Word, Placed, tokens_from, tokens}
use Rattle.spdx_expressions.specs.Tokens.{lexemes, placed}
use Rattle.spdx_expressions.specs.declared.tokens.Spanned.{Spanned}
use Rattle.spdx_expressions.specs.Faults.{found_next, span_next, expected_behind}
use Rattle.spdx_expressions.specs.Words.{is_identifier, ends_with_plus, without_plus, names_licence}
use Rattle.spdx_expressions.specs.Trees.{Term, Piece, Named, And, Or, Open, Close, pieces}

-- ---- a word as a licence

-- the licence that a word names, with no exception
abbrev pub named : List ℕ → Option Term
named w =
    if names_licence w
    then Some (record { name = without_plus w; or_later = ends_with_plus w; exception = None })
    else None

-- ---- the reader

-- what was read last
pub data Mode : Type 0 where
  -- an operand has to follow
  Wants : Mode
  -- a licence, whose exception may follow
  Licensed : (t : Term) → Mode
  -- a licence and `WITH`
  Excepts : (t : Term) → Mode
  -- an operand ended
  Behind : Mode

-- the state of a reader: the number of open brackets, and the parts before a licence that is not complete yet
pub record State : Type 0 where
  pub mode : Mode
  pub depth : ℕ
  pub parts : List Piece

abbrev pub with_exception : Term → List ℕ → Term
with_exception t e = record { name = t.name; or_later = t.or_later; exception = Some e }

abbrev pub at : Mode → ℕ → List Piece → Option State
at mode depth parts = Some (record { mode = mode; depth = depth; parts = parts })

-- a word is the name of a licence or not
abbrev pub by_name : Option Term → ℕ → List Piece → Option State
by_name None n ps = None
by_name (Some t) n ps = at (Licensed t) n ps

-- an operand has to follow
abbrev pub operand : ℕ → List Piece → Lexeme → Option State
operand n ps LeftBracket = at Wants (n + 1) (ps ++ Open ∷ [])
operand n ps RightBracket = None
operand n ps Slash = None
operand n ps (Word w) = by_name (named w) n ps

-- an operand ended
abbrev pub behind : ℕ → List Piece → Lexeme → Option State
behind n ps LeftBracket = None
behind zero ps RightBracket = None
behind (suc n) ps RightBracket = at Behind n (ps ++ Close ∷ [])
behind n ps Slash = at Wants n (ps ++ Or ∷ [])
behind n ps (Word w) =
    if bytes_eq w (codes "AND")
    then at Wants n (ps ++ And ∷ [])
    else (if bytes_eq w (codes "OR") then at Wants n (ps ++ Or ∷ []) else None)

-- a licence was named
abbrev pub licensed : Term → ℕ → List Piece → Lexeme → Option State
licensed t n ps LeftBracket = None
licensed t n ps RightBracket = behind n (ps ++ Named t ∷ []) RightBracket
licensed t n ps Slash = behind n (ps ++ Named t ∷ []) Slash
licensed t n ps (Word w) =
    if bytes_eq w (codes "WITH") then at (Excepts t) n ps else behind n (ps ++ Named t ∷ []) (Word w)

-- an exception has to follow
abbrev pub excepts : Term → ℕ → List Piece → Lexeme → Option State
excepts t n ps LeftBracket = None
excepts t n ps RightBracket = None
excepts t n ps Slash = None
excepts t n ps (Word w) = if is_identifier w then at Behind n (ps ++ Named (with_exception t w) ∷ []) else None

abbrev pub by_mode : Mode → ℕ → List Piece → Lexeme → Option State
by_mode Wants n ps token = operand n ps token
by_mode (Licensed t) n ps token = licensed t n ps token
by_mode (Excepts t) n ps token = excepts t n ps token
by_mode Behind n ps token = behind n ps token

-- the next token, if it is allowed
abbrev pub step : State → Lexeme → Option State
step s token = by_mode s.mode s.depth s.parts token

-- the remaining tokens, as long as they are allowed
abbrev pub run : Option State → List Lexeme → Option State
run None ts = None
run (Some s) [] = Some s
run (Some s) (t ∷ ts) = run (step s t) ts

abbrev pub start : State
start = record { mode = Wants; depth = 0; parts = [] }

abbrev pub finished : Mode → ℕ → List Piece → Option (List Piece)
finished Wants n ps = None
finished (Licensed t) zero ps = Some (ps ++ Named t ∷ [])
finished (Licensed t) (suc n) ps = None
finished (Excepts t) n ps = None
finished Behind zero ps = Some ps
finished Behind (suc n) ps = None

-- all parts, if the expression may end here
abbrev pub whole : State → Option (List Piece)
whole s = finished s.mode s.depth s.parts

-- ---- what is expected

abbrev pub expected_in : Mode → ℕ → Expected
expected_in Wants n = expected.Licence
expected_in (Licensed t) n = expected_behind n
expected_in (Excepts t) n = expected.Exception
expected_in Behind n = expected_behind n

-- ---- the way through a text

abbrev pub left : List ℕ → ℕ → List Placed
left text place = tokens_from place (drop place text)

-- the tokens before a position lead to the state
pub record IsReached (text : List ℕ) (after : List Placed) (s : State) : Type 0 where
  pub before : List Placed
  pub cut : tokens_from 0 text ≡ before ++ after
  pub leads : run (Some start) (lexemes before) ≡ Some s

-- the remaining tokens are not allowed: the next one, or the end
abbrev pub DoNotFit : State → List Placed → Type 0
DoNotFit s [] = whole s ≡ None
DoNotFit s (t ∷ ts) = step s t.token ≡ None

-- a refusal names what is found before the remaining tokens; nothing is said of an allocation failure
abbrev pub IsOf : List ℕ → List Placed → Expected → Refusal → Type 0
IsOf text after wanted (refusal.Unexpected expected found span) =
    (expected ≡ wanted) × (found ≡ found_next after) × (span ≡ span_next text after)
IsOf text after wanted (refusal.Memory e) = Unit {0}

-- the refusal is that of the first token that is not allowed; nothing is said of an allocation failure
abbrev pub IsStopped : List ℕ → Refusal → Type 0
IsStopped text (refusal.Unexpected expected found span) =
    (s : State) × (after : List Placed) × IsReached text after s × DoNotFit s after
    × IsOf text after (expected_in s.mode s.depth) (refusal.Unexpected expected found span)
IsStopped text (refusal.Memory e) = Unit {0}

-- the next of the tokens
abbrev pub IsNext : Option Spanned → List Placed → Type 0
IsNext None ts = ts ≡ []
IsNext (Some s) ts = (more : List Placed) × (ts ≡ placed s ∷ more)

-- the state is like one after an operand, for the remaining tokens
pub record IsBehind (s : State) (after : List Placed) (n : ℕ) (ps : List Piece) : Type 0 where
  pub depth : s.depth ≡ n
  pub expected : expected_in s.mode s.depth ≡ expected_behind n
  pub whole : whole s ≡ finished Behind n ps
  pub next : (t : Placed) (ts : List Placed) → after ≡ t ∷ ts → step s t.token ≡ behind n ps t.token

-- an invariant of the reader: its text was read up to its position
abbrev pub IsReading : Reader → Type 0
IsReading r =
    IsCharBoundary r.text.now r.place × (r.depth ≤ r.place)
    × (s : State) × IsReached r.text.now (left r.text.now r.place) s
    × MatchBool r.wanted
    (s ≡ record { mode = Wants; depth = r.depth; parts = pieces r.parts.items })
    (IsBehind s (left r.text.now r.place) r.depth (pieces r.parts.items))

-- the token is no operator: it is not allowed after an operand, but `)` is if a bracket is open
pub record IsNoOperator (t : Lexeme) : Type 0 where
  pub flat : (ps : List Piece) → behind 0 ps t ≡ None
  pub nested : (t ≡ RightBracket → ⊥) → (n : ℕ) (ps : List Piece) → behind n ps t ≡ None

-- ---- the exception after a licence

-- ---- the exception after a licence
-- `WITH` does not come next
abbrev pub LacksWith : List Placed → Type 0
LacksWith after = (t : Placed) (ts : List Placed) → after ≡ t ∷ ts → t.token ≡ Word (codes "WITH") → ⊥

-- what comes next is `WITH`, then an identifier, and then this
pub record IsExcepted (after : List Placed) (word : List ℕ) (behind : List Placed) : Type 0 where
  pub with : Placed
  pub name : Placed
  pub comes : after ≡ with ∷ name ∷ behind
  pub is_with : with.token ≡ Word (codes "WITH")
  pub is_word : name.token ≡ Word word
  pub is_identifier : is_identifier word ≡ true

-- what comes next is `WITH`, and then no identifier
pub record LacksException (text : List ℕ) (after : List Placed) (r : Refusal) : Type 0 where
  pub with : Placed
  pub rest : List Placed
  pub comes : after ≡ with ∷ rest
  pub is_with : with.token ≡ Word (codes "WITH")
  pub stops : (t : Term) (n : ℕ) (ps : List Piece)
      → DoNotFit (record { mode = Excepts t; depth = n; parts = ps }) rest
  pub refusal : IsOf text rest expected.Exception r

-- ---- the end

-- the text is read as these parts
abbrev pub IsRead : List ℕ → List Piece → Type 0
IsRead text ps = (s : State) × (run (Some start) (tokens text) ≡ Some s) × (whole s ≡ Some ps)

-- the error of a refusal, with the text; nothing is said of an allocation failure
abbrev pub Becomes : Refusal → List ℕ → ReadError → Type 0
Becomes r text (errors.Memory e) = Unit {0}
Becomes (refusal.Unexpected expected found span) text (errors.Parse e) =
    (string_bytes e.text ≡ text) × (e.expected ≡ expected) × (e.found ≡ found) × (e.span ≡ span)
Becomes (refusal.Memory a) text (errors.Parse e) = ⊥
