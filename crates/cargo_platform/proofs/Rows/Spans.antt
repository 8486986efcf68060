-- The spans of some faults.
use Rattle.std.proofs.Common.{◌≡◌, refl, ℕ, true, false, List, [], ◌∷◌, ◌++◌, Some, None, codes, inl, inr, drop}
use Rattle.std.specs.Char.{encode_utf8}
use Rattle.std.specs.List.{last_or}
use Rattle.std.specs.declared.ops.Range.{Range}
use Rattle.cargo_platform.specs.declared.tokens.TokenFaultKind.TheVariants as lexical
use Rattle.cargo_platform.specs.Tokens.{LeftParen, RightParen, Placed}
use Rattle.cargo_platform.specs.Cut.{BeginsFault, lexemes}
use Rattle.cargo_platform.specs.Cut.{Item, Lexical, Nothing}
use Rattle.cargo_platform.specs.Spelling.{Expressions}
use Rattle.cargo_platform.specs.Faults.{Fault, UnterminatedString, UnexpectedToken, IncompleteExpr}
use Rattle.cargo_platform.specs.Faults.{UnterminatedExpression, fault_of, IsRefusedAt, from_to, span_of}
use Rattle.cargo_platform.specs.Walk.{State, walk, is_whole}
use Rattle.cargo_platform.proofs.Paths.{next_before}
use Rattle.cargo_platform.proofs.OneCut.{IsTail}
use Rattle.cargo_platform.proofs.Prefixes.{goes_on, refused_walked_at}
use Rattle.cargo_platform.proofs.CutTests.{is_cut_from, comes_by}
use Rattle.cargo_platform.proofs.SomeCut.{last_at, no_token_at}
use Rattle.cargo_platform.proofs.Rows.Cut.{at, word}

-- a character that begins no token, and one after a mark, where the mark is not meant
bare_character : span_of (codes "a %") false (Lexical (lexical.UnexpectedChar 0x25) 2) ≡ from_to 2 3
bare_character = refl

marked_character : span_of (codes "all(r#%)") false (Lexical (lexical.UnexpectedChar 0x25) 4) ≡ from_to 6 7
marked_character = refl

wide_character : span_of (codes "é") false (Lexical (lexical.UnexpectedChar 0xE9) 0) ≡ from_to 0 2
wide_character = refl

-- after a whole expression the mark is a part of what is left
marked_behind : span_of (codes "a r#%") true (Lexical (lexical.UnexpectedChar 0x25) 2) ≡ from_to 2 5
marked_behind = refl

-- a text, by its fault prefix and the tokens after it, with its span
row : (text : List ℕ) (prefix behind : List Placed) (tail : ℕ) (s : State) (next : Item) (fault : Fault)
    (span : Range ℕ) → is_cut_from text 0 (prefix ++ behind) tail ≡ true → (rest : IsTail (drop tail text))
    → walk Expressions (lexemes prefix) ≡ Some s
    → goes_on Expressions s behind ≡ None → next_before (last_at text tail rest) behind ≡ next
    → fault_of Expressions text (is_whole s) (last_or None (lexemes prefix)) next ≡ Some fault
    → span_of text (is_whole s) next ≡ span → IsRefusedAt Expressions text fault (Some span)
row text prefix behind tail s next fault span cut rest walked stops follows table is =
    rw (← is)
    (rw (← follows)
    (refused_walked_at Expressions text prefix behind (last_at text tail rest) tail s fault
    (no_token_at text tail rest) (comes_by text (prefix ++ behind) tail cut rest) walked stops (rw follows table)))

-- `all(a`
abbrev all_a : List Placed
all_a = word (codes "all") 0 3 ∷ at LeftParen 3 4 ∷ word (codes "a") 4 5 ∷ []

token : IsRefusedAt Expressions (codes "all(a b)") (UnexpectedToken (codes "`)`") (codes "an identifier"))
    (Some (from_to 6 7))
token =
    row _ all_a (word (codes "b") 6 7 ∷ at RightParen 7 8 ∷ []) 8 _ _ _ _ refl (inl refl) refl refl refl refl refl

left_behind : IsRefusedAt Expressions (codes "foo(a)") (UnterminatedExpression (codes "(a)")) (Some (from_to 3 6))
left_behind =
    row _ (word (codes "foo") 0 3 ∷ []) (at LeftParen 3 4 ∷ word (codes "a") 4 5 ∷ at RightParen 5 6 ∷ []) 6 _ _ _ _
    refl (inl refl) refl refl refl refl refl

too_early : IsRefusedAt Expressions (codes "all(a ") (IncompleteExpr (codes "`)`")) (Some (from_to 6 6))
too_early = row _ all_a [] 6 _ Nothing _ _ refl (inl refl) refl refl refl refl refl

open_string : IsRefusedAt Expressions (codes "all(a \"") UnterminatedString (Some (from_to 6 7))
unfolding encode_utf8
open_string =
    let begins : BeginsFault (codes "\"") lexical.UnterminatedString =
    ([], record { scalar = refl; parts = refl }, refl) in
    row _ all_a [] 6 _ (Lexical lexical.UnterminatedString 6) _ _ refl (inr (lexical.UnterminatedString, begins)) refl
    refl refl refl refl

empty_mark : IsRefusedAt Expressions (codes "all r#") (IncompleteExpr (codes "identifier")) (Some (from_to 6 6))
empty_mark =
    row _ (word (codes "all") 0 3 ∷ []) [] 4 _ (Lexical lexical.MissingIdentifier 4) _ _ refl
    (inr (lexical.MissingIdentifier, refl)) refl refl refl refl refl
