-- Why a text is refused: the first token that is not allowed, or the end that comes too early.
use Rattle.std.specs.Prelude.{◌≡◌, ℕ, suc, zero, ◌-◌, Bool, true, false, ◌||◌, if◌then◌else◌, List, [], ◌∷◌, ◌++◌}
use Rattle.std.specs.Prelude.{length, Option, Some, None, codes, bytes_eq, count_by}
use Rattle.std.specs.List.{last_or}
use Rattle.std.specs.declared.ops.Range.{Range}
use Rattle.spdx_expressions.specs.declared.error.Expected.{Expected}
use Rattle.spdx_expressions.specs.declared.error.Expected.TheVariants as expected
use Rattle.spdx_expressions.specs.declared.error.Found.{Found}
use Rattle.spdx_expressions.specs.declared.error.Found.TheVariants as found
use Rattle.spdx_expressions.specs.Tokens.{Lexeme, LeftBracket, RightBracket, Slash, Word, Placed, tokens_from, lexemes}
use Rattle.spdx_expressions.specs.Words.{names_licence}
use Rattle.spdx_expressions.specs.Trees.{Term, Tree}
use Rattle.spdx_expressions.specs.Grammar.{SpellTree, IsTerm, term_tokens}

-- ---- what is found, and where

-- ---- what is found, and where
-- how faults name a token
abbrev pub found_in : Lexeme → Found
found_in LeftBracket = found.Open
found_in RightBracket = found.Close
found_in Slash = found.Slash
found_in (Word w) =
    if bytes_eq w (codes "AND") then found.And
    else (if bytes_eq w (codes "OR") then found.Or
    else (if bytes_eq w (codes "WITH") then found.With
    else (if names_licence w then found.Licence else found.Unknown)))

-- what is found, by the remaining tokens
abbrev pub found_next : List Placed → Found
found_next [] = found.End
found_next (t ∷ ts) = found_in t.token

-- where it is found: the next token, or the empty span at the end of the text
abbrev pub span_next : List ℕ → List Placed → Range ℕ
span_next text [] = record { start = length text; end = length text }
span_next text (t ∷ ts) = record { start = t.start; end = t.end }

-- ---- what is expected

abbrev pub is_left : Lexeme → Bool
is_left LeftBracket = true
is_left RightBracket = false
is_left Slash = false
is_left (Word w) = false

abbrev pub is_right : Lexeme → Bool
is_right LeftBracket = false
is_right RightBracket = true
is_right Slash = false
is_right (Word w) = false

-- the number of brackets that are open after tokens
abbrev pub opened : List Lexeme → ℕ
opened ts = count_by is_left ts - count_by is_right ts

-- after an operand
abbrev pub expected_behind : ℕ → Expected
expected_behind zero = expected.Operator
expected_behind (suc n) = expected.OperatorOrClose

-- what is expected, by the last token and the number of open brackets
abbrev pub expected_by : Option Lexeme → ℕ → Expected
expected_by None n = expected.Licence
expected_by (Some LeftBracket) n = expected.Licence
expected_by (Some Slash) n = expected.Licence
expected_by (Some RightBracket) n = expected_behind n
expected_by (Some (Word w)) n =
    if bytes_eq w (codes "AND") || bytes_eq w (codes "OR") then expected.Licence
    else (if bytes_eq w (codes "WITH") then expected.Exception else expected_behind n)

abbrev pub expected_after : List Lexeme → Expected
expected_after ts = expected_by (last_or None ts) (opened ts)

-- the same if one licence is parsed
abbrev pub expected_last : Option Lexeme → Expected
expected_last None = expected.Licence
expected_last (Some LeftBracket) = expected.End
expected_last (Some RightBracket) = expected.End
expected_last (Some Slash) = expected.End
expected_last (Some (Word w)) = if bytes_eq w (codes "WITH") then expected.Exception else expected.End

abbrev pub expected_of_one : List Lexeme → Expected
expected_of_one ts = expected_last (last_or None ts)

-- ---- the fault

-- ---- the fault
-- the tokens that are accepted: those of a tree, or those of one licence
abbrev pub IsAccepted : List Lexeme → Type 0
IsAccepted ts = (e : Tree) × SpellTree ts e

abbrev pub IsOneLicence : List Lexeme → Type 0
IsOneLicence ts = (t : Term) × IsTerm t × (ts ≡ term_tokens t)

-- some further tokens make them accepted
abbrev pub IsCompletable : (List Lexeme → Type 0) → List Lexeme → Type 0
IsCompletable accepts ts = (more : List Lexeme) × accepts (ts ++ more)

-- the tokens before can't continue with the remaining ones: with the next token they can't be completed, or they end
-- too early
abbrev pub IsStuck : (List Lexeme → Type 0) → List Lexeme → List Placed → Type 0
IsStuck accepts before [] = accepts before → ⊥
IsStuck accepts before (t ∷ ts) = IsCompletable accepts (before ++ t.token ∷ []) → ⊥

-- The fault of a text: its longest prefix of tokens that can be completed, what is expected after it, and what is found
-- there.
pub record IsFaultBy (accepts : List Lexeme → Type 0) (expects : List Lexeme → Expected) (text : List ℕ)
    (wanted : Expected) (found : Found) (span : Range ℕ) : Type 0 where
  pub before : List Placed
  pub after : List Placed
  pub cut : tokens_from 0 text ≡ before ++ after
  pub completable : IsCompletable accepts (lexemes before)
  pub stuck : IsStuck accepts (lexemes before) after
  pub is_expected : wanted ≡ expects (lexemes before)
  pub is_found : found ≡ found_next after
  pub is_at : span ≡ span_next text after

-- the fault of a text that is parsed as an expression
abbrev pub IsFault : List ℕ → Expected → Found → Range ℕ → Type 0
IsFault = IsFaultBy IsAccepted expected_after

-- the fault of a text that is parsed as a licence
abbrev pub IsFaultOfOne : List ℕ → Expected → Found → Range ℕ → Type 0
IsFaultOfOne = IsFaultBy IsOneLicence expected_of_one
