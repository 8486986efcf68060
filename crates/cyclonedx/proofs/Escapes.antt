-- A name or a version with its escapes decodes to itself, and has no separator.
use Rattle.std.proofs.Common.{◌≡◌, ℕ, Bool, true, false, ◌==◌, ◌||◌, ◌⊎◌, ⊎_elim, List, All, refl, arith, subst}
use Rattle.std.proofs.lemmas.Bool.{ne_eqb, both_ways}
use Rattle.percent_encoding.specs.AsciiSet.{should_percent_encode}
use Rattle.percent_encoding.proofs.PercentLemmas.{round_trip, IsEscapeByte, All-percent_encode}
use Rattle.percent_encoding.proofs.OnLiterals.{percent_encoding_on_literals}
use Rattle.cyclonedx.specs.declared.purl.TheConstants.{ESCAPED}
use Rattle.cyclonedx.specs.Laws.{DecodesToItself, HasNoSeparator}

pub decodes_to_itself : DecodesToItself
decodes_to_itself text small = round_trip ESCAPED text refl small

abbrev IsFree : ℕ → Type 0
IsFree b = (b == 64 || b == 63 || b == 35 || b == 47 || b == 38 || b == 61) ≡ false

-- none of six tests gives true
none_of_six : (a b c d e f : Bool) → a ≡ false → b ≡ false → c ≡ false → d ≡ false → e ≡ false → f ≡ false
    → (a || b || c || d || e || f) ≡ false
none_of_six a b c d e f first second third fourth fifth sixth =
    rw (first, second, third, fourth, fifth, sixth) refl

-- a byte that is kept is none that is escaped
other : (b d : ℕ) → should_percent_encode ESCAPED b ≡ false → should_percent_encode ESCAPED d ≡ true → (b == d) ≡ false
other b d kept escaped =
    ne_eqb b d
    (λ same. both_ways _ (subst (λ (n : ℕ). should_percent_encode ESCAPED n ≡ false) same kept) escaped)

kept_free : (b : ℕ) → should_percent_encode ESCAPED b ≡ false → IsFree b
unfolding percent_encoding_on_literals
kept_free b kept =
    none_of_six (b == 64) (b == 63) (b == 35) (b == 47) (b == 38) (b == 61) (other b 64 kept refl)
    (other b 63 kept refl) (other b 35 kept refl) (other b 47 kept refl) (other b 38 kept refl) (other b 61 kept refl)

-- an escape is written with `%`, digits and the letters from `A` to `F`
escape_is_no : (b d : ℕ) → IsEscapeByte b → (IsEscapeByte d → ⊥) → (b == d) ≡ false
escape_is_no b d is none = ne_eqb b d (λ same. none (subst IsEscapeByte same is))

escape_free : (b : ℕ) → IsEscapeByte b → IsFree b
escape_free b is =
    none_of_six (b == 64) (b == 63) (b == 35) (b == 47) (b == 38) (b == 61) (escape_is_no b 64 is (λ h. grind arith))
    (escape_is_no b 63 is (λ h. grind arith)) (escape_is_no b 35 is (λ h. grind arith))
    (escape_is_no b 47 is (λ h. grind arith)) (escape_is_no b 38 is (λ h. grind arith))
    (escape_is_no b 61 is (λ h. grind arith))

pub no_separator : HasNoSeparator
no_separator text = All-percent_encode IsFree ESCAPED text kept_free escape_free
