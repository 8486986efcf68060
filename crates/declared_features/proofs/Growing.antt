-- Sets to which what elements stand for is added, one after the other.
use Rattle.std.proofs.Common.{◌≡◌, ℕ, ◌+◌, ◌<◌, ◌≤◌, List, [], ◌∷◌, ◌++◌, length, get_or, take, map, sym, ◌∙◌, ap}
use Rattle.std.proofs.Common.{subst}
use Rattle.std.proofs.Common.{◌⊎◌, inl, inr, Option, Some, Bor, arith, Bool, true, false, cond, refl}
use Rattle.std.specs.Prelude.{◌↔◌, slice_get, Any, Decides, bytes_eq}
use Rattle.std.specs.BTreeSet.{BTreeSet, contains_by, IsEmpty, Updates}
use Rattle.std.specs.Cmp.Lexicographic.{slice_cmp}
use Rattle.std.specs.Ordering.{is_eq, nat_cmp}
use Rattle.std.proofs.lemmas.List.{take_more, take_all, length-take, get_or_default, length-map, get_or-map}
use Rattle.std.proofs.lemmas.Option.{get_or_from_slice_get}
use Rattle.std.proofs.lemmas.Map.Text.{is_eq-slice_cmp}
use Rattle.std.proofs.lemmas.Slice.Eq.{bytes_eq-Decides}
use Rattle.declared_features.specs.Lists.{SomeBelow, SomeAt}
use Rattle.declared_features.specs.NameSets.{NameSet, HasName, HasJustNames, AddsNames}
use Rattle.declared_features.proofs.Collecting.{any_more, any_before, any_here, below_zero, below_up, below_here}
use Rattle.declared_features.proofs.Placing.{element_at}
use Rattle.declared_features.proofs.Collecting.{below_cases, below_all, all_below}

-- what is in the second set: what is in the first, and what this holds for
abbrev pub Grows : {M : Type 0} → (M → Type 0) → (M → Type 0) → (M → Type 0) → Type 0
Grows {M} Old New P = (m : M) → New m ↔ (Old m ⊎ P m)

pub no_any : {E : Type 0} (es : List E) (P : E → Type 0) → Any P (take 0 es) → ⊥
no_any es P some = let below = some.2 in omega (arith, below, length-take 0 es)

pub grown_start : {M E : Type 0} (Base : M → Type 0) (es : List E) (Q : E → M → Type 0)
    → Grows Base Base (λ m. Any (λ e. Q e m) (take 0 es))
grown_start {M} {E} Base es Q m =
    (λ h. inl h, λ h. elim h [ inl before ↦ before | inr some ↦ absurd (no_any es (λ e. Q e m) some) ])

pub grown_next : {M E : Type 0} (Base Old New : M → Type 0) (es : List E) (i : ℕ) (e : E) (Q : E → M → Type 0)
    → i < length es → e ≡ get_or es i e → Grows Old New (λ m. Q e m)
    → Grows Base Old (λ m. Any (λ e. Q e m) (take i es)) → Grows Base New (λ m. Any (λ e. Q e m) (take (i + 1) es))
grown_next {M} {E} Base Old New es i e Q below is more before m =
    let whole : take (i + 1) es ≡ take i es ++ e ∷ [] =
    take_more es i e below ∙ ap (λ (g : E). take i es ++ g ∷ []) (sym is) in (
      λ h.
          elim ((more m).0 h) [
            | inl old ↦
                elim ((before m).0 old) [
                  | inl base ↦ inl base
                  | inr some ↦ inr (any_before (take i es) (take (i + 1) es) e (λ e. Q e m) whole some)
                ]
            | inr here ↦ inr (any_here (take i es) (take (i + 1) es) e (λ e. Q e m) whole here)
          ],
      λ h.
          elim h [
            | inl base ↦ (more m).1 (inl ((before m).1 (inl base)))
            | inr some ↦
                elim (any_more (take i es) (take (i + 1) es) e (λ e. Q e m) whole some) [
                  | inl earlier ↦ (more m).1 (inl ((before m).1 (inr earlier)))
                  | inr here ↦ (more m).1 (inr here)
                ]
          ],
    )

-- an element that is copied
pub grown_copied : {M E : Type 0} (Base Old New : M → Type 0) (es : List E) (i : ℕ) (default : E) (Q : E → M → Type 0)
    → i < length es → Grows Old New (λ m. Q (get_or es i default) m)
    → Grows Base Old (λ m. Any (λ e. Q e m) (take i es)) → Grows Base New (λ m. Any (λ e. Q e m) (take (i + 1) es))
grown_copied Base Old New es i default Q below =
    grown_next Base Old New es i (get_or es i default) Q below
    (get_or_default es i default (get_or es i default) below)

pub grown_end : {M E : Type 0} (Base Old : M → Type 0) (es : List E) (i : ℕ) (Q : E → M → Type 0) → length es ≤ i
    → Grows Base Old (λ m. Any (λ e. Q e m) (take i es)) → Grows Base Old (λ m. Any (λ e. Q e m) es)
grown_end {M} {E} Base Old es i Q past before =
    subst (λ (l : List E). Grows Base Old (λ m. Any (λ e. Q e m) l)) (take_all i es past) before

-- ---- elements by what a function gives for them

pub any_mapped : {X Y : Type 0} (f : X → Y) (P : Y → Type 0) (xs : List X) → Any (λ x. P (f x)) xs → Any P (map f xs)
any_mapped {X} {Y} f P xs (k, x, below, same, such) =
    let inside : k < length (map f xs) = omega (arith, below, length-map xs f) in
    (k, f x, inside, get_or-map f xs k x (f x) below ∙ ap f same, such)

pub any_unmapped : {X Y : Type 0} (f : X → Y) (P : Y → Type 0) (xs : List X) → Any P (map f xs)
    → Any (λ x. P (f x)) xs
any_unmapped {X} {Y} f P xs (k, y, below, same, such) =
    let inside : k < length xs = omega (arith, below, length-map xs f) in
    let x = element_at xs k inside in
    let at : get_or xs k x.0 ≡ x.0 = get_or_from_slice_get xs k x.0 x.0 x.1 in
    let is : y ≡ f x.0 = sym same ∙ get_or-map f xs k x.0 y inside ∙ ap f at in
    (k, x.0, inside, at, subst P is such)

-- ---- with indexes

pub grown_at_start : {M E : Type 0} (Base : M → Type 0) (es : List E) (P : ℕ → E → M → Type 0)
    → Grows Base Base (λ m. SomeBelow 0 es (λ i e. P i e m))
grown_at_start {M} {E} Base es P m = (
  λ h. inl h,
  λ h. elim h [ inl before ↦ before | inr some ↦ absurd (below_zero es (λ i e. P i e m) some) ],
)

pub grown_at_next : {M E : Type 0} (Base Old New : M → Type 0) (es : List E) (n : ℕ) (e : E) (P : ℕ → E → M → Type 0)
    → slice_get es n ≡ Some e → Grows Old New (λ m. P n e m)
    → Grows Base Old (λ m. SomeBelow n es (λ i e. P i e m))
    → Grows Base New (λ m. SomeBelow (n + 1) es (λ i e. P i e m))
grown_at_next {M} {E} Base Old New es n e P there more before m = (
  λ h.
      elim ((more m).0 h) [
        | inl old ↦
            elim ((before m).0 old) [
              | inl base ↦ inl base
              | inr some ↦ inr (below_up n es (λ i e. P i e m) some)
            ]
        | inr here ↦ inr (below_here n es (λ i e. P i e m) e there here)
      ],
  λ h.
      elim h [
        | inl base ↦ (more m).1 (inl ((before m).1 (inl base)))
        | inr some ↦
            elim (below_cases n es (λ i e. P i e m) e there some) [
              | inl earlier ↦ (more m).1 (inl ((before m).1 (inr earlier)))
              | inr here ↦ (more m).1 (inr here)
            ]
      ],
)

pub grown_at_end : {M E : Type 0} (Base Old : M → Type 0) (es : List E) (n : ℕ) (P : ℕ → E → M → Type 0)
    → length es ≤ n → Grows Base Old (λ m. SomeBelow n es (λ i e. P i e m))
    → Grows Base Old (λ m. SomeAt es (λ i e. P i e m))
grown_at_end {M} {E} Base Old es n P past before m = (
  λ h.
      elim ((before m).0 h) [
        | inl base ↦ inl base
        | inr some ↦ inr (below_all n es (λ i e. P i e m) some)
      ],
  λ h.
      elim h [
        | inl base ↦ (before m).1 (inl base)
        | inr some ↦ (before m).1 (inr (all_below n es (λ i e. P i e m) past some))
      ],
)

-- ---- in other words, one after the other, and from nothing

pub grown_as : {M : Type 0} (Old New P Q : M → Type 0) → Grows Old New P → ((m : M) → P m → Q m)
    → ((m : M) → Q m → P m) → Grows Old New Q
grown_as {M} Old New P Q grows to from m = (
  λ h. elim ((grows m).0 h) [ inl old ↦ inl old | inr p ↦ inr (to m p) ],
  λ h. elim h [ inl old ↦ (grows m).1 (inl old) | inr q ↦ (grows m).1 (inr (from m q)) ],
)

pub grown_not : {M : Type 0} (Old P : M → Type 0) → ((m : M) → P m → ⊥) → Grows Old Old P
grown_not {M} Old P none m = (λ h. inl h, λ h. elim h [ inl old ↦ old | inr p ↦ absurd (none m p) ])

pub grown_from_nothing : {M : Type 0} (Old New P : M → Type 0) → ((m : M) → Old m → ⊥) → Grows Old New P → (m : M)
    → New m ↔ P m
grown_from_nothing {M} Old New P none grows m = (
  λ h. elim ((grows m).0 h) [ inl old ↦ absurd (none m old) | inr p ↦ p ],
  λ p. (grows m).1 (inr p),
)

pub grown_twice : {M : Type 0} (Old Mid New P Q : M → Type 0) → Grows Old Mid P → Grows Mid New Q
    → Grows Old New (λ m. P m ⊎ Q m)
grown_twice {M} Old Mid New P Q first second m = (
  λ h.
      elim ((second m).0 h) [
        | inl mid ↦ elim ((first m).0 mid) [ inl old ↦ inl old | inr p ↦ inr (inl p) ]
        | inr q ↦ inr (inr q)
      ],
  λ h.
      elim h [
        | inl old ↦ (second m).1 (inl ((first m).1 (inl old)))
        | inr pq ↦ elim pq [ inl p ↦ (second m).1 (inl ((first m).1 (inr p))) | inr q ↦ (second m).1 (inr q) ]
      ],
)

-- ---- sets of names

-- a set that has what another one has, and what passes a test
pub by_test : (new old test : Bool) (P : Type 0) → new ≡ cond test true old → Decides test P
    → (new ≡ true) ↔ ((old ≡ true) ⊎ P)
by_test new old true P is decides = (λ h. inr (decides.0 refl), λ h. is)
by_test new old false P is decides =
    (λ h. inl (sym is ∙ h), λ h. elim h [ inl o ↦ is ∙ o | inr p ↦ absurd (let e = decides.1 p in cc) ])

pub names_inserted : (old new : NameSet) (n : Bor (List ℕ))
    → Updates (λ x y. slice_cmp nat_cmp x.now y.now) old new n true → AddsNames old new (λ q. n.now ≡ q)
names_inserted old new n updates q =
    let same : is_eq (slice_cmp nat_cmp n.now q) ≡ bytes_eq n.now q = is_eq-slice_cmp n.now q in
    by_test (contains_by (λ k. slice_cmp nat_cmp q k.now) new) (contains_by (λ k. slice_cmp nat_cmp q k.now) old)
    (is_eq (slice_cmp nat_cmp n.now q)) (n.now ≡ q) (updates.0 (record { ref_ptr = (0, 0); now = q }))
    (subst (λ (b : Bool). Decides b (n.now ≡ q)) (sym same) (bytes_eq-Decides n.now q))

pub no_names : (names : NameSet) → IsEmpty names → (q : List ℕ) → HasName names q → ⊥
no_names names empty q has =
    let none : contains_by (λ k. slice_cmp nat_cmp q k.now) names ≡ false =
    ap (λ (l : List (Bor (List ℕ))). contains_by (λ k. slice_cmp nat_cmp q k.now) (record { keys = l })) empty in
    cc

pub just_names : (empty names : NameSet) (P : List ℕ → Type 0) → IsEmpty empty → AddsNames empty names P
    → HasJustNames names P
just_names empty names P is grows =
    grown_from_nothing (HasName empty) (HasName names) P (no_names empty is) grows
