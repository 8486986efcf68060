-- The orders of an index are total, and tie where its facts are equal.
use Rattle.std.proofs.Common.{◌≡◌, refl, sym, ap, ◌∙◌, ℕ, Bool, true, false, ◌&&◌}
use Rattle.std.specs.declared.cmp.Ordering.{Ordering}
use Rattle.std.specs.declared.cmp.Ordering.TheVariants.{Less, Equal, Greater}
use Rattle.std.specs.Ordering.{ordering_then, is_eq, nat_cmp}
use Rattle.std.specs.Cmp.{IsTotalOrder, tied_itself, then_total, on_total, nat_cmp_total}
use Rattle.std.specs.Cmp.Lexicographic.{nat_list_cmp_total}
use Rattle.cargo_platform.specs.Key.{text_cmp}
use Rattle.cargo_platform.specs.OrderLaws.{text_tie}
use Rattle.cargo_platform.specs.Places.{text_hash, Hashed, HashedPair, hashed_cmp, hashed_pair_cmp}
use Rattle.cargo_platform.proofs.FactSets.{untied_after}

pub hashed_total : IsTotalOrder hashed_cmp
hashed_total = then_total (on_total (λ h. h.hash) nat_cmp_total) (on_total (λ h. h.text) nat_list_cmp_total)

pub hashed_pair_total : IsTotalOrder hashed_pair_cmp
hashed_pair_total = then_total (on_total (λ p. p.value) hashed_total) (on_total (λ p. p.key) nat_list_cmp_total)

-- ---- ties

-- the text has this hash
abbrev pub IsHashed : Hashed → Type 0
IsHashed h = h.hash ≡ text_hash h.text

tied_numbers : (m n : ℕ) → m ≡ n → nat_cmp m n ≡ Equal
tied_numbers m n same = ap (λ k. nat_cmp k n) same ∙ tied_itself nat_cmp_total n

-- equal texts have equal hashes
pub hashed_ties : (a b : Hashed) → IsHashed a → IsHashed b → is_eq (hashed_cmp a b) ≡ is_eq (text_cmp a.text b.text)
hashed_ties a b first second = by_cases (text_cmp a.text b.text) refl
  where
    by_cases : (r : Ordering) → text_cmp a.text b.text ≡ r
        → is_eq (ordering_then (nat_cmp a.hash b.hash) r) ≡ is_eq r
    by_cases Less e = untied_after (nat_cmp a.hash b.hash) Less refl
    by_cases Greater e = untied_after (nat_cmp a.hash b.hash) Greater refl
    by_cases Equal e =
        ap (λ o. is_eq (ordering_then o Equal))
        (tied_numbers a.hash b.hash (first ∙ ap text_hash (text_tie a.text b.text e) ∙ sym second))

tied_both : (a b : Ordering) → is_eq (ordering_then a b) ≡ (is_eq a && is_eq b)
tied_both Less b = refl
tied_both Equal b = refl
tied_both Greater b = refl

swapped : (a b : Bool) → (a && b) ≡ (b && a)
swapped true true = refl
swapped true false = refl
swapped false true = refl
swapped false false = refl

-- values before keys tie where keys before values do
pub pair_ties : (a b : HashedPair) → IsHashed a.value → IsHashed b.value
    → is_eq (hashed_pair_cmp a b) ≡ is_eq (ordering_then (text_cmp a.key b.key) (text_cmp a.value.text b.value.text))
pair_ties a b first second =
    tied_both (hashed_cmp a.value b.value) (text_cmp a.key b.key)
    ∙ ap (λ r. r && is_eq (text_cmp a.key b.key)) (hashed_ties a.value b.value first second)
    ∙ swapped (is_eq (text_cmp a.value.text b.value.text)) (is_eq (text_cmp a.key b.key))
    ∙ sym (tied_both (text_cmp a.key b.key) (text_cmp a.value.text b.value.text))
