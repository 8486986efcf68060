-- The places of a set's members, one by one.
use Rattle.std.proofs.Common.{◌≡◌, ◌∙◌, refl, ap, ℕ, suc, ◌+◌, ◌<◌, ◌≤◌}
use Rattle.std.proofs.Common.{Bool, true, false, List, [], ◌∷◌, length, zero, arith}
use Rattle.std.proofs.Common.{sym, eqb, eq-eqb, ◌||◌, inl, inr}
use Rattle.std.specs.Prelude.{◌-◌, ◌≢◌}
use Rattle.std.specs.List.{list_any}
use Rattle.std.specs.Cmp.Lexicographic.{pointwise}
use Rattle.std.proofs.lemmas.Bool.{cases_eq}
use Rattle.std.proofs.lemmas.Bool.Decides.{same_from_decides, Decides-eqb}
use Rattle.std.proofs.lemmas.Slice.Eq.{slice_eq-Decides}
use Rattle.known_targets.proofs.Bits.{eqb-false}
use Rattle.known_targets.specs.declared.target_set.TargetSet.{TargetSet}
use Rattle.known_targets.specs.declared.table.TheConstants.{COUNT}
use Rattle.known_targets.specs.Sets.{is_member, place_where, members_among, members_from, members}

at_place : (set : TargetSet) (i : ℕ) → i < COUNT
    → members_from set i ≡ place_where (is_member set i) i (members_from set (i + 1))
unfolding members_among
at_place set i below =
    let one_more : COUNT - i ≡ suc (COUNT - (i + 1)) = omega arith in
    ap (λ n. members_among n set i) one_more

pub is_in : (set : TargetSet) (i : ℕ) → i < COUNT → is_member set i ≡ true
    → members_from set i ≡ i ∷ members_from set (i + 1)
is_in set i below h = at_place set i below ∙ ap (λ b. place_where b i (members_from set (i + 1))) h

pub is_out : (set : TargetSet) (i : ℕ) → i < COUNT → is_member set i ≡ false
    → members_from set i ≡ members_from set (i + 1)
is_out set i below h = at_place set i below ∙ ap (λ b. place_where b i (members_from set (i + 1))) h

pub is_over : (set : TargetSet) (i : ℕ) → COUNT ≤ i → members_from set i ≡ []
unfolding members_among
is_over set i over =
    let none : COUNT - i ≡ 0 = omega arith in
    ap (λ n. members_among n set i) none

among_few : (b : Bool) (n k : ℕ) (ks : List ℕ) → length ks ≤ n → length (place_where b k ks) ≤ suc n
among_few true n k ks h = omega (arith, h)
among_few false n k ks h = omega (arith, h)

few_among : (n : ℕ) (set : TargetSet) (k : ℕ) → length (members_among n set k) ≤ n
unfolding members_among
few_among zero set k = omega arith
few_among (suc n) set k = among_few (is_member set k) n k (members_among n set (k + 1)) (few_among n set (k + 1))

pub few : (set : TargetSet) (k : ℕ) → length (members_from set k) ≤ COUNT
few set k =
    let h : length (members_from set k) ≤ COUNT - k = few_among (COUNT - k) set k in
    omega (arith, h)

pub shorter : (xs ys : List ℕ) (y : ℕ) → xs ≡ y ∷ ys → length ys < length xs
shorter xs ys y is =
    let h : length xs ≡ suc (length ys) = ap length is in
    omega (arith, h)

-- ---- two sets

place_before : (b : Bool) (j k : ℕ) (ks : List ℕ) → eqb j k ≡ false → list_any (eqb j) ks ≡ false
    → list_any (eqb j) (place_where b k ks) ≡ false
place_before true j k ks e h = ap (λ t. t || list_any (eqb j) ks) e ∙ h
place_before false j k ks e h = h

place_same : (b : Bool) (j k : ℕ) (ks : List ℕ) → eqb j k ≡ true → list_any (eqb j) ks ≡ false
    → list_any (eqb j) (place_where b k ks) ≡ b
place_same true j k ks e h = ap (λ t. t || list_any (eqb j) ks) e
place_same false j k ks e h = h

place_other : (b : Bool) (j k : ℕ) (ks : List ℕ) → eqb j k ≡ false
    → list_any (eqb j) (place_where b k ks) ≡ list_any (eqb j) ks
place_other true j k ks e = ap (λ t. t || list_any (eqb j) ks) e
place_other false j k ks e = refl

module _ (set : TargetSet) where
  before_none : (n k j : ℕ) → j < k → list_any (eqb j) (members_among n set k) ≡ false
  unfolding members_among
  before_none zero k j h = refl
  before_none (suc n) k j h =
      let apart : j ≢ k = omega arith in
      place_before (is_member set k) j k (members_among n set (k + 1)) (eqb-false j k apart)
      (before_none n (k + 1) j (omega arith))

  -- a place is listed exactly where it is a member's
  told_at : (n k j : ℕ) → k ≤ j → j < k + n → list_any (eqb j) (members_among n set k) ≡ is_member set j
  unfolding members_among
  told_at zero k j low high = absurd (omega arith)
  told_at (suc n) k j low high = elim (cases_eq j k) [
    | inl same ↦
        place_same (is_member set k) j k (members_among n set (k + 1)) (eq-eqb j k same)
        (before_none n (k + 1) j (omega arith))
        ∙ ap (is_member set) (sym same)
    | inr other ↦
        place_other (is_member set k) j k (members_among n set (k + 1)) (eqb-false j k other)
        ∙ told_at n (k + 1) j (omega arith) (omega arith)
  ]

module _ (a b : TargetSet) where
  same_among : ((j : ℕ) → j < COUNT → is_member a j ≡ is_member b j) → (n k : ℕ) → k + n ≤ COUNT
      → members_among n a k ≡ members_among n b k
  unfolding members_among
  same_among each zero k h = refl
  same_among each (suc n) k h =
      let here : k < COUNT = omega arith in
      let rest : k + 1 + n ≤ COUNT = omega arith in
      (λ i. place_where (each k here i) k (same_among each n (k + 1) rest i))

  same_sets : members a ≡ members b → (k : ℕ) → k < COUNT → is_member a k ≡ is_member b k
  same_sets same k below =
      sym (told_at a COUNT 0 k (omega arith) (omega arith)) ∙ ap (list_any (eqb k)) same
      ∙ told_at b COUNT 0 k (omega arith) (omega arith)

  -- sets are equal where both have the same targets
  pub are_equal : (r : Bool) → (r ≡ true → (k : ℕ) → k < COUNT → is_member a k ≡ is_member b k)
      → (((k : ℕ) → k < COUNT → is_member a k ≡ is_member b k) → r ≡ true)
      → r ≡ pointwise eqb (members a) (members b)
  are_equal r if_true if_same =
      same_from_decides {P = members a ≡ members b} r (pointwise eqb (members a) (members b))
      (λ h. same_among (if_true h) COUNT 0 (omega arith), λ same. if_same (same_sets same))
      (slice_eq-Decides Decides-eqb (members a) (members b) (pointwise eqb (members a) (members b)) refl)
