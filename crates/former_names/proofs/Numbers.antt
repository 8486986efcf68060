-- What a text of digits is read as.
use Rattle.std.proofs.Common.{◌≡◌, ◌≢◌, ℕ, zero, suc, ◌<◌, ◌^◌, List, length, get_or}
use Rattle.std.proofs.Common.{sym, ap, subst, ◌∙◌, arith, Ok, Err, Result}
use Rattle.std.proofs.Common.{IfSome, IfNone, decimal, Fits, w64}
use Rattle.std.specs.Result.{result_ok}
use Rattle.std.specs.Str.Parse.{AllDigits, digits_value, ParsesUnsigned}
use Rattle.std.proofs.lemmas.Str.Parse.{IsNumeralModel, numerals_by_value, tells_digits, parse_plain, digit_at}
use Rattle.std.proofs.lemmas.Fmt.{decimal-digits_value, parse-decimal, decimal_is_IsNumeral}
use Rattle.std.proofs.lemmas.Fmt.{decimal_nonempty, decimal_digit, first_decimal}

own : IsNumeralModel (AllDigits 10) (digits_value 10)
own = numerals_by_value (AllDigits 10) tells_digits

-- what `parse` reads of a text without a sign and leading zeros is the number that it is the decimal of
pub is_read : {E : Type 0} (t : List ℕ) (r : Result ℕ E) → ParsesUnsigned 64 10 t r → get_or t 0 0 ≢ 43
    → (get_or t 0 0 ≡ 48 → length t ≡ 1) → IfSome (result_ok r) (λ n. t ≡ decimal n)
is_read {E} t (Ok n) h plus lead =
    let k = parse_plain own {E = E} 64 t (Ok n) h plus in
    sym (decimal-digits_value own t k.0.0 k.0.1 lead k.0.2) ∙ ap decimal (sym k.1)
is_read {E} t (Err e) h plus lead = tt

abbrev IsError : {E : Type 0} → Result ℕ E → Type 0
IsError (Ok n) = ⊥
IsError (Err e) = Unit {0}

-- and what it does not read is the decimal of none
pub is_unread : {E : Type 0} (t : List ℕ) (r : Result ℕ E) → ParsesUnsigned 64 10 t r
    → IfNone (result_ok r) ((n : ℕ) → n < 2 ^ 64 → t ≢ decimal n)
is_unread t (Ok n) h = tt
is_unread t (Err e) h = λ n small is. subst IsError (parse-decimal 64 n t (Err e) small small is h) tt

-- a decimal has a digit
pub not_empty : (t : List ℕ) (n : ℕ) → n < 2 ^ 64 → t ≡ decimal n → 0 < length t
not_empty t n small is = omega (arith, decimal_nonempty n small, ap length is)

-- and no sign
pub no_sign : (t : List ℕ) (n : ℕ) → n < 2 ^ 64 → t ≡ decimal n → get_or t 0 0 ≢ 43
no_sign t n small is plus =
    let d = digit_at (decimal n) 0 (decimal_is_IsNumeral n small).0.1 (decimal_nonempty n small) in
    omega (arith, d.0, ap (λ x. get_or x 0 0) is)

-- and no zero before another digit
pub no_zeros : (t : List ℕ) (n : ℕ) → n < 2 ^ 64 → t ≡ decimal n → get_or t 0 0 ≡ 48 → length t ≡ 1
no_zeros t zero small is lead = ap length is ∙ ap length (decimal_digit 0 (omega arith))
no_zeros t (suc n) small is lead =
    absurd (omega (arith, first_decimal (suc n) (omega arith) small, ap (λ x. get_or x 0 0) is))
