-- A set that gains a member lacks fewer.
use Rattle.std.proofs.Common.{◌≡◌, ℕ, zero, suc, ◌+◌, ◌<◌, ◌≤◌, Bool, true, false, cond, refl, inl, inr, arith}
use Rattle.std.proofs.lemmas.Bool.{cases_lt}
use Rattle.package_graphs.specs.Inside.Spreading.{count_lacking}

-- what is there stays there
abbrev Grows : ℕ → (ℕ → Bool) → (ℕ → Bool) → Type 0
Grows n p q = (k : ℕ) → k < n → p k ≡ true → q k ≡ true

one_le : (b c : Bool) → (b ≡ true → c ≡ true) → cond c 0 1 ≤ cond b 0 1
one_le true true h = omega arith
one_le true false h = let e : false ≡ true = h refl in cc
one_le false true h = omega arith
one_le false false h = omega arith

one_same : (b c : Bool) → (b ≡ true → c ≡ true) → cond b 0 1 ≤ cond c 0 1 → c ≡ b
one_same true true h l = refl
one_same true false h l = h refl
one_same false true h l = absurd (omega arith)
one_same false false h l = refl

pub lacking_le : (n : ℕ) (p q : ℕ → Bool) → Grows n p q → count_lacking n q ≤ count_lacking n p
unfolding count_lacking
lacking_le zero p q h = omega arith
lacking_le (suc n) p q h =
    let here = one_le (p n) (q n) (h n (omega arith)) in
    let before = lacking_le n p q (λ k l. h k (omega arith)) in
    omega (arith, here, before)

-- where as many lack, both have the same
pub lacking_same : (n : ℕ) (p q : ℕ → Bool) → Grows n p q → count_lacking n p ≤ count_lacking n q
    → (k : ℕ) → k < n → q k ≡ p k
unfolding count_lacking
lacking_same zero p q h l k below = absurd (omega arith)
lacking_same (suc n) p q h l k below =
    let here = one_le (p n) (q n) (h n (omega arith)) in
    let before = lacking_le n p q (λ k l. h k (omega arith)) in
    let fits : cond (p n) 0 1 ≤ cond (q n) 0 1 = omega (arith, here, before, l) in
    elim (cases_lt k n) as (λ _. q k ≡ p k) [
      | inl lower ↦ lacking_same n p q (λ k l. h k (omega arith)) (omega (arith, here, before, l)) k lower
      | inr upper ↦
          let e : k ≡ n = omega arith in
          rw e (one_same (p n) (q n) (h n (omega arith)) fits)
    ]

-- where not both have the same, fewer lack
pub lacking_less : (n : ℕ) (p q : ℕ → Bool) → Grows n p q → (((k : ℕ) → k < n → q k ≡ p k) → ⊥)
    → count_lacking n q + 1 ≤ count_lacking n p
lacking_less n p q h other =
    elim (cases_lt (count_lacking n q) (count_lacking n p)) as (λ _. count_lacking n q + 1 ≤ count_lacking n p) [
      | inl less ↦ omega arith
      | inr same ↦ absurd (other (lacking_same n p q h same))
    ]
