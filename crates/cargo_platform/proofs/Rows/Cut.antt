-- The cuts of some texts, and what is none.
use Rattle.std.proofs.Common.{refl, sym, ap, ◌∙◌, ℕ, true, false, true≢false, List, [], ◌∷◌, ◌++◌, codes, inl, inr}
use Rattle.std.proofs.Common.{arith, length, drop}
use Rattle.std.specs.Prelude.{not, ◌==◌}
use Rattle.std.specs.List.{list_all}
use Rattle.std.specs.Char.{encode_utf8}
use Rattle.cargo_platform.specs.declared.tokens.TokenFaultKind.TheVariants.{UnterminatedString, UnexpectedChar}
use Rattle.cargo_platform.specs.declared.tokens.TokenFaultKind.TheVariants.{MissingIdentifier}
use Rattle.cargo_platform.specs.Chars.{is_space, is_quote, starts}
use Rattle.cargo_platform.specs.Tokens.{Lexeme, LeftParen, RightParen, Ident, Comma, Equals, String, Placed}
use Rattle.cargo_platform.specs.Cut.{IsPiece, IsWrittenAt, AreSpaces, EndsBefore, BeginsFault}
use Rattle.cargo_platform.specs.Cut.{IsCut, Token, Lexical, Nothing, Comes}
use Rattle.cargo_platform.specs.Reading.{IsRestFrom}
use Rattle.cargo_platform.proofs.OneCut.{IsTail, tail_no_space, one_cut_from}
use Rattle.cargo_platform.proofs.SomeCut.{cut_ends, cut_cons}
use Rattle.cargo_platform.proofs.CutTests.{spaces, written_at, cut_by}

abbrev pub at : Lexeme → ℕ → ℕ → Placed
at t i j = record { token = t; start = i; end = j }

abbrev pub word : List ℕ → ℕ → ℕ → Placed
word name i j = at (Ident false name) i j

-- ---- cuts

empty : IsCut [] [] 0
empty = cut_by _ _ _ refl (inl refl)

two_spaces : IsCut (codes "  ") [] 2
two_spaces = cut_by _ _ _ refl (inl refl)

pub comma_behind : IsCut (codes "all(a, )")
    (word (codes "all") 0 3 ∷ at LeftParen 3 4 ∷ word (codes "a") 4 5 ∷ at Comma 5 6 ∷ at RightParen 7 8 ∷ []) 8
comma_behind = cut_by _ _ _ refl (inl refl)

-- `r#a="é"`: a character of two bytes
abbrev wide : List ℕ
wide = codes "r#a=\"" ++ (0xC3 ∷ 0xA9 ∷ codes "\"")

wide_value : IsWrittenAt wide (at (String (0xC3 ∷ 0xA9 ∷ [])) 4 8)
unfolding encode_utf8
wide_value = (((0xE9 ∷ [], (refl, refl)), refl), record { ordered = omega arith; inside = omega arith; bytes = refl })

wide_pair : IsCut wide (at (Ident true (codes "a")) 0 3 ∷ at Equals 3 4 ∷ at (String (0xC3 ∷ 0xA9 ∷ [])) 4 8 ∷ []) 8
wide_pair =
    cut_cons wide 0 8 (at (Ident true (codes "a")) 0 3) _ (spaces _ _ _ refl)
    (written_at wide (at (Ident true (codes "a")) 0 3) refl) (refl, refl)
    (cut_cons wide 3 8 (at Equals 3 4) _ (spaces _ _ _ refl) (written_at wide (at Equals 3 4) refl) tt
    (cut_cons wide 4 8 (at (String (0xC3 ∷ 0xA9 ∷ [])) 4 8) [] (spaces _ _ _ refl) wide_value tt
    (cut_ends wide 8 8 (spaces _ _ _ refl) (inl refl))))

string_first : IsCut (codes "\"a\"b") (at (String (codes "a")) 0 3 ∷ word (codes "b") 3 4 ∷ []) 4
string_first = cut_by _ _ _ refl (inl refl)

-- a marked `r`, and then `#a`
pub marked_twice : IsCut (codes "r#r#a") (at (Ident true (codes "r")) 0 3 ∷ []) 3
unfolding encode_utf8
marked_twice =
    cut_by _ _ _ refl (inr (UnexpectedChar 0x23, inr (codes "a", record { scalar = refl; parts = refl }, refl)))

-- an `r` inside a name begins no mark
pub late_mark : IsCut (codes "ar#") (word (codes "ar") 0 2 ∷ []) 2
unfolding encode_utf8
late_mark = cut_by _ _ _ refl (inr (UnexpectedChar 0x23, inr ([], record { scalar = refl; parts = refl }, refl)))

-- nor does an `r` with a space after it
pub apart_mark : IsCut (codes "r #foo") (word (codes "r") 0 1 ∷ []) 2
unfolding encode_utf8
apart_mark =
    cut_by _ _ _ refl (inr (UnexpectedChar 0x23, inr (codes "foo", record { scalar = refl; parts = refl }, refl)))

-- `a r#é`: a mark, and a character that begins no name
wide_name : IsCut (codes "a r#" ++ (0xC3 ∷ 0xA9 ∷ [])) (word (codes "a") 0 1 ∷ []) 2
unfolding encode_utf8
wide_name =
    cut_by _ _ _ refl
    (inr (UnexpectedChar 0xE9, inl (0xC3 ∷ 0xA9 ∷ [], [], refl, record { scalar = refl; parts = refl }, refl)))

-- a mark at the end of the text
pub last_mark : IsCut (codes "all r#") (word (codes "all") 0 3 ∷ []) 4
last_mark = cut_by _ _ _ refl (inr (MissingIdentifier, refl))

-- a string that does not end
pub open_string : IsCut (codes "a \"b") (word (codes "a") 0 1 ∷ []) 2
unfolding encode_utf8
open_string = cut_by _ _ _ refl (inr (UnterminatedString, (codes "b", record { scalar = refl; parts = refl }, refl)))

pub a_b : IsCut (codes "a b") (word (codes "a") 0 1 ∷ word (codes "b") 2 3 ∷ []) 3
a_b = cut_by _ _ _ refl (inl refl)

pub lone_a : IsCut (codes "a") (word (codes "a") 0 1 ∷ []) 1
lone_a = cut_by _ _ _ refl (inl refl)

-- ---- what is no cut

one_token_short : (tail : ℕ) → IsCut (codes "a b") (word (codes "a") 0 1 ∷ []) tail → ⊥
one_token_short tail p = absurd (omega (arith, ap length (one_cut_from _ _ _ 0 tail 3 p a_b).0))

split_name : (tail : ℕ) → IsCut (codes "ab") (word (codes "a") 0 1 ∷ word (codes "b") 1 2 ∷ []) tail → ⊥
split_name tail p = true≢false p.comes.0.2.0

-- the span of a marked name without its mark
bare_span : (tail : ℕ) → IsCut (codes "r#a") (at (Ident true (codes "a")) 2 3 ∷ []) tail → ⊥
bare_span tail p = absurd (omega (arith, ap length p.comes.0.1.1.bytes))

tab_is_no_space : AreSpaces (0x09 ∷ []) 0 1 → ⊥
tab_is_no_space p = true≢false (sym p.2 ∙ sym (ap (list_all is_space) p.1.bytes))

-- a token that begins before the one ahead of it ends
no_overlap : (to : ℕ) → Comes (codes "ab") 1 (Token (word (codes "ab") 0 2)) to → ⊥
no_overlap to p = absurd (omega (arith, p.0.1.ordered))

no_piece_outside : (piece : List ℕ) → IsPiece (codes "a") 0 2 piece → ⊥
no_piece_outside piece p = absurd (omega (arith, p.inside))

not_written_so : IsWrittenAt (codes "b") (word (codes "a") 0 1) → ⊥
not_written_so p = true≢false (ap (starts (λ c. c == 0x62)) p.1.bytes)

no_rest_behind_name : EndsBefore (Ident false (codes "a")) (codes "b") → ⊥
no_rest_behind_name p = true≢false p.0

no_mark_behind_r : EndsBefore (Ident false (codes "r")) (codes "#a") → ⊥
no_mark_behind_r p = true≢false p.1

number_sign_behind_marked : EndsBefore (Ident true (codes "r")) (codes "#a")
number_sign_behind_marked = (refl, refl)

not_whole : (to : ℕ) → Comes (codes "ab") 0 (Token (word (codes "a") 0 1)) to → ⊥
not_whole to p = true≢false p.2.0

-- ---- what begins no lexical fault

closed_string : BeginsFault (codes "\"a\"") UnterminatedString → ⊥
unfolding encode_utf8
closed_string p =
    true≢false (sym p.2 ∙ sym (ap (λ (z : List ℕ). list_all (λ c. not (is_quote c)) (drop 1 z)) p.1.parts))

named_mark : BeginsFault (codes "r#a") MissingIdentifier → ⊥
named_mark p = absurd (omega (arith, ap length p))

space_is_no_fault : BeginsFault (codes " ") (UnexpectedChar 0x20) → ⊥
space_is_no_fault (inl p) = true≢false (ap (starts is_space) p.2)
space_is_no_fault (inr p) = true≢false p.2

-- the end of the text after a mark is no unexpected character
last_mark_is_missing : BeginsFault (codes "r#") (UnexpectedChar 0x72) → ⊥
unfolding encode_utf8
last_mark_is_missing (inl p) = absurd (omega (arith, ap length p.2, ap length p.3.parts))
last_mark_is_missing (inr p) = true≢false p.2

name_is_no_tail : IsTail (codes "a") → ⊥
name_is_no_tail t =
    absurd (omega (arith, ap length (one_cut_from (codes "a") _ _ 0 0 1 (cut_by (codes "a") [] 0 refl t) lone_a).0))

space_is_no_tail : IsTail (codes " a") → ⊥
space_is_no_tail t = true≢false (tail_no_space (codes " a") t)

-- ---- the steps of a tokenizer

second_comes : Comes (codes "a b") 1 (Token (word (codes "b") 2 3)) 3
second_comes = (spaces _ _ _ refl, written_at _ (word (codes "b") 2 3) refl, (refl, refl), refl)

-- no token comes where a part of one is after it
no_part_comes : (to : ℕ) → Comes (codes "ab") 0 (Token (word (codes "a") 0 1)) to → ⊥
no_part_comes to p = true≢false p.2.0

pub number_sign_comes : Comes (codes "a #") 1 (Lexical (UnexpectedChar 0x23) 2) 2
unfolding encode_utf8
number_sign_comes = (spaces _ _ _ refl, inr ([], record { scalar = refl; parts = refl }, refl), refl)

pub nothing_comes : Comes (codes "a  ") 1 Nothing 3
nothing_comes = (spaces _ _ _ refl, refl)

pub something_comes : (to : ℕ) → Comes (codes "a") 0 Nothing to → ⊥
something_comes to p = true≢false (sym p.0.2 ∙ sym (ap (list_all is_space) p.0.1.bytes))

rest_is : IsRestFrom (codes "a  b ") 1 (codes "b ")
rest_is = record { start = 3; apart = spaces _ _ _ refl; bytes = refl; begins = (0x62, codes " ", refl, refl) }

rest_begins_with_no_space : IsRestFrom (codes "a  b ") 1 (codes " b ") → ⊥
rest_begins_with_no_space p = true≢false (ap (starts is_space) p.begins.2 ∙ p.begins.3)
