-- Where a text that a number and a point begin is split.
use Rattle.std.proofs.Common.{◌≡◌, ℕ, Bool, ◌+◌, ◌<◌, ◌^◌, List, ◌∷◌, ◌++◌, length, get_or, ap, ◌∙◌, arith, eqb}
use Rattle.std.proofs.Common.{false, decimal, take, drop, length-append, Option, None}
use Rattle.std.proofs.Common.{Some, MatchOption, IfNone, Bor, inl, inr}
use Rattle.std.proofs.Common.{◌≢◌, sym, subst}
use Rattle.former_names.specs.declared.releases.Release.{Release}
use Rattle.former_names.specs.Releases.{IsSpelled, SpellsLast}
use Rattle.std.specs.List.{position_or_len, before_first, after_first}
use Rattle.std.proofs.lemmas.List.{get_or_append_left}
use Rattle.std.proofs.lemmas.List.Sums.{position_or_len_is}
use Rattle.std.proofs.lemmas.Str.Parse.{digit_at}
use Rattle.std.proofs.lemmas.Str.Pattern.{IsSplitOnceResult, split_once_first}
use Rattle.std.proofs.lemmas.Fmt.{decimal_is_IsNumeral}
use borrow.Author.Tests.{ne_eqb}
use lib.Seq.{take-append_seam, drop-append-add, get_or-append_seam}

abbrev is_point : ℕ → Bool
is_point b = eqb b 46

-- a digit is no point
no_point : (n k : ℕ) → n < 2 ^ 64 → k < length (decimal n) → is_point (get_or (decimal n) k 0) ≡ false
no_point n k small within =
    let d = digit_at (decimal n) k (decimal_is_IsNumeral n small).0.1 within in
    ne_eqb _ 46 (λ e. omega (arith, d.0))

-- a decimal has no point
is_whole : (n : ℕ) → n < 2 ^ 64 → position_or_len is_point (decimal n) ≡ length (decimal n)
is_whole n small =
    position_or_len_is is_point (decimal n) (length (decimal n)) 0 (omega arith) (λ k l. no_point n k small l)
    (λ l. absurd (omega arith))

-- the first point is after the number
first_point : (n : ℕ) (rest : List ℕ) → n < 2 ^ 64
    → position_or_len is_point (decimal n ++ (46 ∷ rest)) ≡ length (decimal n)
first_point n rest small =
    position_or_len_is is_point (decimal n ++ (46 ∷ rest)) (length (decimal n)) 0
    (omega (arith, length-append (decimal n) (46 ∷ rest)))
    (λ k l. ap is_point (get_or_append_left (decimal n) (46 ∷ rest) 0 k l) ∙ no_point n k small l)
    (λ l. ap is_point (get_or-append_seam (decimal n) 46 rest 0))

is_split : (t rest : List ℕ) (n : ℕ) → n < 2 ^ 64 → t ≡ decimal n ++ (46 ∷ rest)
    → position_or_len is_point t < length t
is_split t rest n small is =
    omega (
      arith,
      ap (position_or_len is_point) is,
      first_point n rest small,
      ap length is,
      length-append (decimal n) (46 ∷ rest),
    )

front_is : (t rest : List ℕ) (n : ℕ) → n < 2 ^ 64 → t ≡ decimal n ++ (46 ∷ rest)
    → before_first is_point t ≡ decimal n
front_is t rest n small is =
    ap (before_first is_point) is
    ∙ ap (λ k. take k (decimal n ++ (46 ∷ rest))) (first_point n rest small)
    ∙ take-append_seam (decimal n) (46 ∷ rest)

back_is : (t rest : List ℕ) (n : ℕ) → n < 2 ^ 64 → t ≡ decimal n ++ (46 ∷ rest)
    → after_first is_point t ≡ rest
back_is t rest n small is =
    ap (after_first is_point) is
    ∙ ap (λ k. drop (k + 1) (decimal n ++ (46 ∷ rest))) (first_point n rest small)
    ∙ drop-append-add (decimal n) (46 ∷ rest) 1

-- a text that a number and a point begin is split into the number and what follows the point
pub parts_are : (t : List ℕ) (r : Option (Bor (List ℕ) × Bor (List ℕ))) → IsSplitOnceResult 46 t r
    → (n : ℕ) (rest : List ℕ) → n < 2 ^ 64 → t ≡ decimal n ++ (46 ∷ rest)
    → MatchOption r ⊥ (λ x. (x.0.now ≡ decimal n) × (x.1.now ≡ rest))
parts_are t None h n rest small is =
    omega (arith, split_once_first 46 t None h (omega arith), is_split t rest n small is)
parts_are t (Some x) h n rest small is =
    let k = split_once_first 46 t (Some x) h (omega arith) in
    (k.1 ∙ front_is t rest n small is, k.2 ∙ back_is t rest n small is)

-- and a decimal is not split
pub no_parts : (t : List ℕ) (r : Option (Bor (List ℕ) × Bor (List ℕ))) → IsSplitOnceResult 46 t r
    → (n : ℕ) → n < 2 ^ 64 → t ≡ decimal n → MatchOption r (Unit {0}) (λ x. ⊥)
no_parts t None h n small is = tt
no_parts t (Some x) h n small is =
    let k = split_once_first 46 t (Some x) h (omega arith) in
    omega (arith, k.0, ap (position_or_len is_point) is, is_whole n small, ap length is)

abbrev Parts : Type 0
Parts = Bor (List ℕ) × Bor (List ℕ)

-- of a text that spells two numbers or one, and that a point splits, the front is a decimal
last_front : (t : List ℕ) (x : Parts) → IsSplitOnceResult 46 t (Some x) → (minor patch : ℕ) → minor < 2 ^ 64
    → SpellsLast t minor patch → (x.0.now ≡ decimal minor) × (x.1.now ≡ decimal patch)
last_front t x h minor patch small (inl one) = absurd (no_parts t (Some x) h minor small one.0)
last_front t x h minor patch small (inr both) = parts_are t (Some x) h minor (decimal patch) small both

pub minor_unread : (t : List ℕ) (r : Option Parts) → IsSplitOnceResult 46 t r → (x : Parts) → r ≡ Some x
    → ((n : ℕ) → n < 2 ^ 64 → x.0.now ≢ decimal n) → (minor patch : ℕ) → minor < 2 ^ 64 → patch < 2 ^ 64
    → SpellsLast t minor patch → ⊥
minor_unread t r h x is none minor patch small _ spelt =
    none minor small (last_front t x (subst (IsSplitOnceResult 46 t) is h) minor patch small spelt).0

pub patch_unread : (t : List ℕ) (r : Option Parts) → IsSplitOnceResult 46 t r → (x : Parts) → r ≡ Some x
    → ((n : ℕ) → n < 2 ^ 64 → x.1.now ≢ decimal n) → (minor patch : ℕ) → minor < 2 ^ 64 → patch < 2 ^ 64
    → SpellsLast t minor patch → ⊥
patch_unread t r h x is none minor patch small other spelt =
    none patch other (last_front t x (subst (IsSplitOnceResult 46 t) is h) minor patch small spelt).1

-- where no point splits it, it is a decimal
one_unread_at : (t : List ℕ) → IsSplitOnceResult 46 t None → ((n : ℕ) → n < 2 ^ 64 → t ≢ decimal n)
    → (minor patch : ℕ) → minor < 2 ^ 64 → SpellsLast t minor patch → ⊥
one_unread_at t h none minor patch small (inl one) = none minor small one.0
one_unread_at t h none minor patch small (inr both) = parts_are t None h minor (decimal patch) small both

pub one_unread : (t : List ℕ) (r : Option Parts) → IsSplitOnceResult 46 t r → r ≡ None
    → ((n : ℕ) → n < 2 ^ 64 → t ≢ decimal n) → (minor patch : ℕ) → minor < 2 ^ 64 → patch < 2 ^ 64
    → SpellsLast t minor patch → ⊥
one_unread t r h is none minor patch small _ spelt =
    one_unread_at t (subst (IsSplitOnceResult 46 t) is h) none minor patch small spelt

-- a text that spells a release is split by a point
pub no_release : (t : List ℕ) (r : Option Parts) → IsSplitOnceResult 46 t r → r ≡ None
    → (v : Release) → IsSpelled t v → ⊥
no_release t r h is v spelt =
    parts_are t None (subst (IsSplitOnceResult 46 t) is h) v.major spelt.1.0 spelt.0.0 spelt.1.1

pub major_unread : (t : List ℕ) (r : Option Parts) → IsSplitOnceResult 46 t r → (x : Parts) → r ≡ Some x
    → ((n : ℕ) → n < 2 ^ 64 → x.0.now ≢ decimal n) → (v : Release) → IsSpelled t v → ⊥
major_unread t r h x is none v spelt =
    none v.major spelt.0.0
    (parts_are t (Some x) (subst (IsSplitOnceResult 46 t) is h) v.major spelt.1.0 spelt.0.0 spelt.1.1).0

pub rest_unread : (t : List ℕ) (r : Option Parts) → IsSplitOnceResult 46 t r → (x : Parts) → r ≡ Some x
    → ((minor patch : ℕ) → minor < 2 ^ 64 → patch < 2 ^ 64 → SpellsLast x.1.now minor patch → ⊥)
    → (v : Release) → IsSpelled t v → ⊥
rest_unread t r h x is none v spelt =
    let back = (parts_are t (Some x) (subst (IsSplitOnceResult 46 t) is h) v.major spelt.1.0 spelt.0.0 spelt.1.1).1 in
    none v.minor v.patch spelt.0.1 spelt.0.2 (subst (λ z. SpellsLast z v.minor v.patch) (sym back) spelt.1.2)

-- what holds anyway holds where there is no value
pub if_none : {T : Type 0} (o : Option T) (P : Type 0) → P → IfNone o P
if_none None P p = p
if_none (Some x) P p = tt

-- and what follows from that
pub none_from : {T : Type 0} (o : Option T) (P Q : Type 0) → (P → Q) → IfNone o P → IfNone o Q
none_from None P Q f p = f p
none_from (Some x) P Q f p = tt
