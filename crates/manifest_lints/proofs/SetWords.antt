-- Bits of words.
use Prim.Native.Nat.{zero, suc}
use Rattle.std.proofs.Common.{◌≡◌, ◌∙◌, refl, sym, ap, ℕ, ◌*◌, ◌%◌, ◌^◌, ◌<◌, List, [], ◌∷◌}
use Rattle.std.proofs.Common.{Bool, true, false, ◌||◌, ◌&&◌, not, eqb, eq-eqb, eqb-true, ◌≢◌, ◌==◌, inl, inr, arith}
use Rattle.std.proofs.Common.{w64, min, max, true≢false}
use Rattle.std.specs.Prelude.{◌-◌, nat_eq, bit_and, bit_or}
use Rattle.std.specs.Int.{bit_at, bit_not}
use Rattle.std.specs.List.{list_any}
use Rattle.std.proofs.lemmas.Nat.Bits.{bit_at_or, bit_at_and, bit_at_not, bit_at-zero, bit_at-lt, same_from_bits_below}
use Rattle.std.proofs.lemmas.Nat.Bits.{bit_at_set_same, bit_at_set_other}
use Rattle.std.proofs.lemmas.Bool.{cases_eq}
use Rattle.manifest_lints.specs.Samples.{is_set}

or_bits : (x y : ℕ) → x < 2 → y < 2 → eqb (max x y) 1 ≡ (eqb x 1 || eqb y 1)
or_bits zero zero p q = refl
or_bits zero (suc zero) p q = refl
or_bits zero (suc (suc y)) p q = absurd (omega arith)
or_bits (suc zero) zero p q = refl
or_bits (suc zero) (suc zero) p q = refl
or_bits (suc zero) (suc (suc y)) p q = absurd (omega arith)
or_bits (suc (suc x)) y p q = absurd (omega arith)

and_bits : (x y : ℕ) → x < 2 → y < 2 → eqb (min x y) 1 ≡ (eqb x 1 && eqb y 1)
and_bits zero zero p q = refl
and_bits zero (suc zero) p q = refl
and_bits zero (suc (suc y)) p q = absurd (omega arith)
and_bits (suc zero) zero p q = refl
and_bits (suc zero) (suc zero) p q = refl
and_bits (suc zero) (suc (suc y)) p q = absurd (omega arith)
and_bits (suc (suc x)) y p q = absurd (omega arith)

not_bit : (x : ℕ) → x < 2 → eqb (1 - x) 1 ≡ not (eqb x 1)
not_bit zero p = refl
not_bit (suc zero) p = refl
not_bit (suc (suc x)) p = absurd (omega arith)

same_bit : (x y : ℕ) → x < 2 → y < 2 → eqb x 1 ≡ eqb y 1 → x ≡ y
same_bit zero zero p q e = refl
same_bit zero (suc zero) p q e = cc
same_bit zero (suc (suc y)) p q e = absurd (omega arith)
same_bit (suc zero) zero p q e = cc
same_bit (suc zero) (suc zero) p q e = refl
same_bit (suc zero) (suc (suc y)) p q e = absurd (omega arith)
same_bit (suc (suc x)) y p q e = absurd (omega arith)

pub set_and : (a b l : ℕ) → is_set (bit_and a b) l ≡ (is_set a l && is_set b l)
set_and a b l =
    ap (λ x. eqb x 1) (bit_at_and a b l) ∙ and_bits (bit_at a l) (bit_at b l) (bit_at-lt a l) (bit_at-lt b l)

pub set_or : (a b l : ℕ) → is_set (bit_or a b) l ≡ (is_set a l || is_set b l)
set_or a b l =
    ap (λ x. eqb x 1) (bit_at_or a b l) ∙ or_bits (bit_at a l) (bit_at b l) (bit_at-lt a l) (bit_at-lt b l)

pub set_not : (a l : ℕ) → a < 2 ^ 64 → l < 64 → is_set (bit_not w64 a) l ≡ not (is_set a l)
set_not a l small below = ap (λ x. eqb x 1) (bit_at_not w64 a l small below) ∙ not_bit (bit_at a l) (bit_at-lt a l)

pub none_set : (l : ℕ) → is_set 0 l ≡ false
none_set l = ap (λ x. eqb x 1) (bit_at-zero l)

-- words with the same bits are the same
pub same_word : (a b : ℕ) → a < 2 ^ 64 → b < 2 ^ 64 → ((l : ℕ) → l < 64 → is_set a l ≡ is_set b l) → a ≡ b
same_word a b p q same =
    same_from_bits_below 64 a b p q
    (λ l low. same_bit (bit_at a l) (bit_at b l) (bit_at-lt a l) (bit_at-lt b l) (same l low))

-- ---- one more bit

pub away : (m n : ℕ) → m ≢ n → eqb m n ≡ false
away m n apart = elim (eqb m n) as (λ b. eqb m n ≡ b → b ≡ false) [
  | true ↦ λ e. absurd (apart (eqb-true m n e))
  | false ↦ λ e. refl
] refl

pub one_more_bit : (word place l : ℕ) (is_there : Bool) → place < 64 → is_there ≡ true
    → is_set (bit_or word (1 * 2 ^ place % 2 ^ 64)) l ≡ (((l == place) && is_there) || is_set word l)
one_more_bit word place l is_there within is = elim (cases_eq l place) [
  | inl same ↦
      ap (λ n. is_set (bit_or word (1 * 2 ^ place % 2 ^ 64)) n) same
      ∙ ap (λ x. eqb x 1) (bit_at_set_same w64 word place within)
      ∙ sym (λ i. ((eq-eqb l place same i) && is i) || is_set word l)
  | inr other ↦
      ap (λ x. eqb x 1) (bit_at_set_other w64 word place within l other)
      ∙ sym (ap (λ b. (b && is_there) || is_set word l) (away l place other))
]

and_false : (b : Bool) → (b && false) ≡ false
and_false true = refl
and_false false = refl

pub no_more_bit : (word place l : ℕ) (is_there : Bool) → is_there ≡ false
    → is_set word l ≡ (((l == place) && is_there) || is_set word l)
no_more_bit word place l is_there is =
    sym (ap (λ b. b || is_set word l) (ap (λ b. (l == place) && b) is ∙ and_false (l == place)))

-- ---- words of which no two have a bit

unfoldable pub are_apart : ℕ → List ℕ → Bool
are_apart so_far [] = true
are_apart so_far (w ∷ ws) = nat_eq (bit_and so_far w) 0 && are_apart (bit_or so_far w) ws

pub left_true : (a b : Bool) → (a && b) ≡ true → a ≡ true
left_true true b h = refl
left_true false b h = h

pub right_true : (a b : Bool) → (a && b) ≡ true → b ≡ true
right_true true b h = h
right_true false b h = cc

apart_false : (a b : Bool) → a ≡ true → (a && b) ≡ false → b ≡ false
apart_false true b h k = k
apart_false false b h k = absurd (true≢false (sym h))

pub none_more : (so_far : ℕ) (ws : List ℕ) (l : ℕ) → are_apart so_far ws ≡ true → is_set so_far l ≡ true
    → list_any (λ w. is_set w l) ws ≡ false
unfolding are_apart
none_more so_far [] l apart is = refl
none_more so_far (w ∷ ws) l apart is =
    let none : bit_and so_far w ≡ 0 = eqb-true (bit_and so_far w) 0 (left_true _ _ apart) in
    let not_here : is_set w l ≡ false =
    apart_false (is_set so_far l) (is_set w l) is
    (sym (set_and so_far w l) ∙ ap (λ n. is_set n l) none ∙ none_set l) in
    let here : is_set (bit_or so_far w) l ≡ true =
    set_or so_far w l ∙ ap (λ b. b || is_set w l) is in
    (λ i. not_here i || none_more (bit_or so_far w) ws l (right_true _ _ apart) here i)
