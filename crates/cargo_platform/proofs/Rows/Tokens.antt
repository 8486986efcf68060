-- Classes of characters and tokens, on some of each.
use Rattle.std.proofs.Common.{◌≡◌, refl, sym, ap, ◌∙◌, ℕ, ◌≤◌, ◌<◌, Bool, true, false, true≢false, List, [], ◌∷◌, ◌+◌}
use Rattle.std.proofs.Common.{codes, map, arith, length, length-append}
use Rattle.std.specs.Prelude.{IsFalse, ◌==◌}
use Rattle.std.specs.Char.{encode_utf8, len_utf8}
use Rattle.std.proofs.lemmas.Str.{length-encode, byte_from_char}
use Rattle.std.proofs.lemmas.Bool.Decides.{nat_tests}
use Rattle.std.specs.Str.{encode_utf8_all}
use Rattle.cargo_platform.specs.declared.tokens.Token.TheVariants as token
use Rattle.cargo_platform.specs.Chars.{is_identifier_start, is_identifier_rest, is_space, is_quote}
use Rattle.cargo_platform.specs.Chars.{is_known_start, starts, BeginsWith}
use Rattle.cargo_platform.specs.Tokens.{LeftParen, RightParen, Ident, Comma, Equals, String, mark, written}
use Rattle.cargo_platform.specs.Tokens.{IsIdentifierName, IsWellWritten, called, lexeme}

-- ---- characters

identifier_starts : map is_identifier_start (codes "_aZ7-#") ≡ true ∷ true ∷ true ∷ false ∷ false ∷ false ∷ []
identifier_starts = refl

-- `é` is a letter, but begins no identifier
wide_letter : IsFalse (is_identifier_start 0xE9)
wide_letter = refl

identifier_rests : map is_identifier_rest (codes "_aZ7-#") ≡ true ∷ true ∷ true ∷ true ∷ false ∷ false ∷ []
identifier_rests = refl

-- neither a tab nor a line end is skipped
spaces : map is_space (0x20 ∷ 0x09 ∷ 0x0A ∷ 0x0D ∷ 0xA0 ∷ []) ≡ true ∷ false ∷ false ∷ false ∷ false ∷ []
spaces = refl

quotes : map is_quote (codes "\"'`") ≡ true ∷ false ∷ false ∷ []
quotes = refl

known_starts : map is_known_start (codes " \"a_7#!") ≡ true ∷ true ∷ true ∷ true ∷ false ∷ false ∷ false ∷ []
known_starts = refl

known_marks : map is_known_start (codes "(),=[{;") ≡ true ∷ true ∷ true ∷ true ∷ false ∷ false ∷ false ∷ []
known_marks = refl

nothing_starts : IsFalse (starts is_space [])
nothing_starts = refl

begins_wide : BeginsWith (0xC3 ∷ 0xA9 ∷ codes "a") 0xE9 (codes "a")
unfolding encode_utf8
begins_wide = record { scalar = refl; parts = refl }

begins_with_the_first : (rest : List ℕ) → BeginsWith (codes "ab") 0x62 rest → ⊥
unfolding encode_utf8
begins_with_the_first rest p = true≢false (sym (ap (starts (λ c. c == 0x62)) p.parts))

-- a surrogate is no character
begins_with_no_surrogate : (text rest : List ℕ) → BeginsWith text 0xD800 rest → ⊥
begins_with_no_surrogate text rest p = true≢false (sym p.scalar)

-- ---- tokens

writes_mark : (mark true ≡ codes "r#") × (mark false ≡ [])
writes_mark = (refl, refl)

writes_raw : written (Ident true (codes "all")) ≡ codes "r#all"
writes_raw = refl

writes_quotes : written (String (codes "a b")) ≡ codes "\"a b\""
writes_quotes = refl

writes_marks : (written LeftParen ≡ codes "(") × (written RightParen ≡ codes ")") × (written Comma ≡ codes ",")
    × (written Equals ≡ codes "=")
writes_marks = (refl, refl, refl, refl)

name_is : IsIdentifierName (codes "_a7")
name_is = (refl, refl)

no_empty_name : (raw : Bool) → IsWellWritten (Ident raw []) → ⊥
no_empty_name raw p = p

no_digit_first : IsIdentifierName (codes "7a") → ⊥
no_digit_first p = true≢false (sym p.0)

no_dash_inside : IsIdentifierName (codes "a-b") → ⊥
no_dash_inside p = true≢false (sym p.1)

-- a string may hold what is nowhere else: a line end, and no character at all
string_is : IsWellWritten (String (0x0A ∷ [])) × IsWellWritten (String [])
unfolding encode_utf8
string_is = (((0x0A ∷ [], (refl, refl)), refl), (([], (refl, refl)), refl))

no_quote_inside : IsWellWritten (String (codes "a\"b")) → ⊥
no_quote_inside p = true≢false (sym p.1)

short_is_ascii : (c : ℕ) → len_utf8 c ≤ 1 → c < 128
short_is_ascii c h = grind (arith, nat_tests)

no_text : (cs : List ℕ) → encode_utf8_all cs ≡ 0xFF ∷ [] → ⊥
no_text [] h = absurd (omega (arith, ap length h))
no_text (c ∷ cs) h =
    let len : length (encode_utf8 c) + length (encode_utf8_all cs) ≡ 1 = sym
    (length-append (encode_utf8 c) (encode_utf8_all cs)) ∙ ap length h in
    let small : c < 128 = short_is_ascii c (omega (arith, len, length-encode c)) in
    absurd (omega (arith, small, byte_from_char (0xFF ∷ []) (encode_utf8_all cs) c (sym h) small))

-- bytes that are no text are in no string
no_foreign_bytes : IsWellWritten (String (0xFF ∷ [])) → ⊥
no_foreign_bytes p = no_text p.0.0 p.0.1.1

marks_are : IsWellWritten LeftParen × IsWellWritten RightParen × IsWellWritten Comma × IsWellWritten Equals
marks_are = (tt, tt, tt, tt)

names_in_faults : (called LeftParen ≡ codes "`(`") × (called RightParen ≡ codes "`)`") × (called Comma ≡ codes "`,`")
    × (called Equals ≡ codes "`=`")
names_in_faults = (refl, refl, refl, refl)

names_of_words : (called (Ident false (codes "all")) ≡ codes "an identifier")
    × (called (Ident true (codes "a")) ≡ codes "an identifier") × (called (String []) ≡ codes "a string")
names_of_words = (refl, refl, refl)

stands_for : (lexeme token.LeftParen ≡ LeftParen) × (lexeme token.RightParen ≡ RightParen)
    × (lexeme token.Comma ≡ Comma) × (lexeme token.Equals ≡ Equals)
stands_for = (refl, refl, refl, refl)
