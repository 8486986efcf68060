-- Lists to which elements are added.
use Rattle.std.proofs.Common.{◌≡◌, ℕ, ◌+◌, ◌<◌, ◌≤◌, List, [], ◌∷◌, ◌++◌, length, get_or, take, sym, ◌∙◌, ap, subst}
use Rattle.std.proofs.Common.{◌⊎◌, inl, inr, Option, Some, Bor, arith}
use Rattle.std.specs.Prelude.{◌↔◌, Contains, slice_get, Any}
use Rattle.std.proofs.lemmas.Bool.{cases_lt}
use Rattle.std.proofs.lemmas.List.{take_more, take_all, length-take, get_or_default, map-append}
use Rattle.std.proofs.lemmas.Option.{slice_get_within}
use Rattle.std.proofs.lemmas.List.Elements.{Contains-append_left, Contains-append_cases, Contains-push}
use Rattle.declared_features.specs.Lists.{HasJust, Adds, SomeBelow, SomeAt}
use Rattle.declared_features.specs.Inside.Names.{texts_in}

pub only : {X : Type 0} (x y : X) → Contains (x ∷ []) y → x ≡ y
only x y (k, below, same) =
    let zero : k ≡ 0 = omega arith in
    ap (λ (n : ℕ). get_or (x ∷ []) n y) (sym zero) ∙ same

-- ---- elements that are added

pub adds_push : {X : Type 0} (old new : List X) (x : X) → new ≡ old ++ x ∷ [] → Adds old new (λ y. x ≡ y)
adds_push {X} old new x pushed y = (
  λ h.
      elim (Contains-append_cases old (x ∷ []) y (subst (λ (l : List X). Contains l y) pushed h)) [
        | inl before ↦ inl before
        | inr here ↦ inr (only x y here)
      ],
  λ h.
      subst (λ (l : List X). Contains l y) (sym pushed)
      (elim h [
        | inl before ↦ Contains-append_left old (x ∷ []) y before
        | inr is ↦ subst (λ (z : X). Contains (old ++ x ∷ []) z) is (Contains-push old x)
      ]),
)

pub adds_none : {X : Type 0} (xs : List X) (P : X → Type 0) → ((x : X) → P x → ⊥) → Adds xs xs P
adds_none xs P none x = (λ h. inl h, λ h. elim h [ inl before ↦ before | inr p ↦ absurd (none x p) ])

pub adds_then : {X : Type 0} (a b c : List X) (P Q R : X → Type 0) → Adds a b P → Adds b c Q
    → ((x : X) → P x ⊎ Q x → R x) → ((x : X) → R x → P x ⊎ Q x) → Adds a c R
adds_then a b c P Q R first second to from x = (
  λ h.
      elim ((second x).0 h) [
        | inl before ↦ elim ((first x).0 before) [ inl old ↦ inl old | inr p ↦ inr (to x (inl p)) ]
        | inr q ↦ inr (to x (inr q))
      ],
  λ h.
      elim h [
        | inl old ↦ (second x).1 (inl ((first x).1 (inl old)))
        | inr r ↦
            elim (from x r) [ inl p ↦ (second x).1 (inl ((first x).1 (inr p))) | inr q ↦ (second x).1 (inr q) ]
      ],
)

pub adds_as : {X : Type 0} (a b : List X) (P Q : X → Type 0) → Adds a b P → ((x : X) → P x → Q x)
    → ((x : X) → Q x → P x) → Adds a b Q
adds_as a b P Q adds to from x = (
  λ h. elim ((adds x).0 h) [ inl old ↦ inl old | inr p ↦ inr (to x p) ],
  λ h. elim h [ inl old ↦ (adds x).1 (inl old) | inr q ↦ (adds x).1 (inr (from x q)) ],
)

-- ---- the first elements

pub below_zero : {X : Type 0} (xs : List X) (P : ℕ → X → Type 0) → SomeBelow 0 xs P → ⊥
below_zero xs P some = let h = some.below in absurd (omega arith)

pub below_up : {X : Type 0} (n : ℕ) (xs : List X) (P : ℕ → X → Type 0) → SomeBelow n xs P → SomeBelow (n + 1) xs P
below_up n xs P some = record {
  index = some.index;
  element = some.element;
  below = let h = some.below in omega arith;
  there = some.there;
  such = some.such;
}

pub below_here : {X : Type 0} (n : ℕ) (xs : List X) (P : ℕ → X → Type 0) (x : X) → slice_get xs n ≡ Some x → P n x
    → SomeBelow (n + 1) xs P
below_here n xs P x there such =
    record { index = n; element = x; below = omega arith; there = there; such = such }

pub some_same : {X : Type 0} (x y : X) → Some x ≡ Some y → x ≡ y
some_same x y e = cc

pub below_cases : {X : Type 0} (n : ℕ) (xs : List X) (P : ℕ → X → Type 0) (x : X) → slice_get xs n ≡ Some x
    → SomeBelow (n + 1) xs P → SomeBelow n xs P ⊎ P n x
below_cases {X} n xs P x there some =
    let h = some.below in
    elim (cases_lt some.index n) [
      | inl less ↦ inl (record {
        index = some.index;
        element = some.element;
        below = less;
        there = some.there;
        such = some.such;
      })
      | inr past ↦
          let is : some.index ≡ n = omega (arith, h, past) in
          let same : some.element ≡ x =
          some_same some.element x (sym some.there ∙ ap (λ (k : ℕ). slice_get xs k) is ∙ there) in
          inr (subst (λ (y : X). P n y) same (subst (λ (k : ℕ). P k some.element) is some.such))
    ]

pub below_all : {X : Type 0} (n : ℕ) (xs : List X) (P : ℕ → X → Type 0) → SomeBelow n xs P → SomeAt xs P
below_all n xs P some = (some.index, some.element, some.there, some.such)

pub all_below : {X : Type 0} (n : ℕ) (xs : List X) (P : ℕ → X → Type 0) → length xs ≤ n → SomeAt xs P
    → SomeBelow n xs P
all_below n xs P past (i, x, there, such) =
    let inside = slice_get_within xs i x there in
    record { index = i; element = x; below = omega (arith, inside, past); there = there; such = such }

-- ---- some element of a list

-- an element of a list with one more
pub any_more : {X : Type 0} (xs ys : List X) (x : X) (P : X → Type 0) → ys ≡ xs ++ x ∷ [] → Any P ys → Any P xs ⊎ P x
any_more {X} xs ys x P is (k, y, below, same, such) =
    let there : Contains ys y = (k, below, same) in
    elim (Contains-append_cases xs (x ∷ []) y (subst (λ (l : List X). Contains l y) is there)) [
      | inl before ↦ inl (before.0, y, before.1, before.2, such)
      | inr here ↦ inr (subst P (sym (only x y here)) such)
    ]

pub any_before : {X : Type 0} (xs ys : List X) (x : X) (P : X → Type 0) → ys ≡ xs ++ x ∷ [] → Any P xs → Any P ys
any_before {X} xs ys x P is (k, y, below, same, such) =
    let there : Contains ys y =
    subst (λ (l : List X). Contains l y) (sym is) (Contains-append_left xs (x ∷ []) y (k, below, same)) in
    (there.0, y, there.1, there.2, such)

pub any_here : {X : Type 0} (xs ys : List X) (x : X) (P : X → Type 0) → ys ≡ xs ++ x ∷ [] → P x → Any P ys
any_here {X} xs ys x P is such =
    let there : Contains ys x = subst (λ (l : List X). Contains l x) (sym is) (Contains-push xs x) in
    (there.0, x, there.1, there.2, such)

-- ---- what the first elements of a list stand for

pub below_start : {X M : Type 0} (old : List M) (found : List X) (P : ℕ → X → M → Type 0)
    → Adds old old (λ m. SomeBelow 0 found (λ i d. P i d m))
below_start {X} {M} old found P =
    adds_none old (λ m. SomeBelow 0 found (λ i d. P i d m)) (λ m. below_zero found (λ i d. P i d m))

-- one more element, with what it stands for, if anything
pub below_next : {X M : Type 0} (old mid new : List M) (found : List X) (P : ℕ → X → M → Type 0) (n : ℕ) (d : X)
    (r : Option M) → slice_get found n ≡ Some d → ((m : M) → (r ≡ Some m) ↔ P n d m)
    → Adds mid new (λ m. r ≡ Some m) → Adds old mid (λ m. SomeBelow n found (λ i d. P i d m))
    → Adds old new (λ m. SomeBelow (n + 1) found (λ i d. P i d m))
below_next {X} {M} old mid new found P n d r there same more adds =
    adds_then old mid new (λ m. SomeBelow n found (λ i d. P i d m)) (λ m. r ≡ Some m)
    (λ m. SomeBelow (n + 1) found (λ i d. P i d m)) adds more
    (λ m h.
    elim h [
      | inl before ↦ below_up n found (λ i d. P i d m) before
      | inr is ↦ below_here n found (λ i d. P i d m) d there ((same m).0 is)
    ])
    (λ m some.
    elim (below_cases n found (λ i d. P i d m) d there some) [
      | inl before ↦ inl before
      | inr here ↦ inr ((same m).1 here)
    ])

-- and then what else is added
pub below_end : {X M : Type 0} (old mid new : List M) (found : List X) (P : ℕ → X → M → Type 0) (Q : M → Type 0) (n : ℕ)
    → length found ≤ n → Adds old mid (λ m. SomeBelow n found (λ i d. P i d m)) → Adds mid new Q
    → Adds old new (λ m. Q m ⊎ SomeAt found (λ i d. P i d m))
below_end {X} {M} old mid new found P Q n past adds more =
    adds_then old mid new (λ m. SomeBelow n found (λ i d. P i d m)) Q (λ m. Q m ⊎ SomeAt found (λ i d. P i d m)) adds
    more
    (λ m h. elim h [ inl some ↦ inr (below_all n found (λ i d. P i d m) some) | inr q ↦ inl q ])
    (λ m h. elim h [ inl q ↦ inr q | inr at ↦ inl (all_below n found (λ i d. P i d m) past at) ])

pub any_start : {E M : Type 0} (ms : List M) (es : List E) (Q : E → M → Type 0) → ms ≡ []
    → HasJust ms (λ m. Any (λ e. Q e m) (take 0 es))
any_start {E} {M} ms es Q none m = (
  λ h. absurd (let inside = subst (λ (l : List M). Contains l m) none h in let below = inside.1 in omega arith),
  λ h. absurd (let below = h.2 in omega (arith, below, length-take 0 es)),
)

pub any_next : {E M : Type 0} (old new : List M) (es : List E) (i : ℕ) (e : E) (Q : E → M → Type 0) → i < length es
    → e ≡ get_or es i e → Adds old new (λ m. Q e m) → HasJust old (λ m. Any (λ e. Q e m) (take i es))
    → HasJust new (λ m. Any (λ e. Q e m) (take (i + 1) es))
any_next {E} {M} old new es i e Q below is adds has m =
    let whole : take (i + 1) es ≡ take i es ++ e ∷ [] =
    take_more es i e below ∙ ap (λ (g : E). take i es ++ g ∷ []) (sym is) in (
      λ h.
          elim ((adds m).0 h) [
            | inl before ↦
                any_before (take i es) (take (i + 1) es) e (λ e. Q e m) whole ((has m).0 before)
            | inr here ↦ any_here (take i es) (take (i + 1) es) e (λ e. Q e m) whole here
          ],
      λ some.
          elim (any_more (take i es) (take (i + 1) es) e (λ e. Q e m) whole some) [
            | inl before ↦ (adds m).1 (inl ((has m).1 before))
            | inr here ↦ (adds m).1 (inr here)
          ],
    )

pub any_end : {E M : Type 0} (ms : List M) (es : List E) (i : ℕ) (Q : E → M → Type 0) → length es ≤ i
    → HasJust ms (λ m. Any (λ e. Q e m) (take i es)) → HasJust ms (λ m. Any (λ e. Q e m) es)
any_end {E} {M} ms es i Q past has =
    subst (λ (l : List E). HasJust ms (λ m. Any (λ e. Q e m) l)) (take_all i es past) has

-- ---- what else a list has

pub just_then : {X : Type 0} (mid new : List X) (P Q R : X → Type 0) → HasJust mid P → Adds mid new Q
    → ((x : X) → Q x → R x) → ((x : X) → R x → Q x) → HasJust new (λ x. P x ⊎ R x)
just_then {X} mid new P Q R has adds to from x = (
  λ h. elim ((adds x).0 h) [ inl before ↦ inl ((has x).0 before) | inr q ↦ inr (to x q) ],
  λ h. elim h [ inl p ↦ (adds x).1 (inl ((has x).1 p)) | inr r ↦ (adds x).1 (inr (from x r)) ],
)

pub just_alone : {X : Type 0} (xs : List X) (P R : X → Type 0) → HasJust xs P → ((x : X) → R x → ⊥)
    → HasJust xs (λ x. P x ⊎ R x)
just_alone {X} xs P R has none x = (
  λ h. inl ((has x).0 h),
  λ h. elim h [ inl p ↦ (has x).1 p | inr r ↦ absurd (none x r) ],
)

-- an element that is copied
pub any_copied : {E M : Type 0} (old new : List M) (es : List E) (i : ℕ) (default : E) (Q : E → M → Type 0)
    → i < length es → Adds old new (λ m. Q (get_or es i default) m)
    → HasJust old (λ m. Any (λ e. Q e m) (take i es)) → HasJust new (λ m. Any (λ e. Q e m) (take (i + 1) es))
any_copied old new es i default Q below adds has =
    any_next old new es i (get_or es i default) Q below
    (get_or_default es i default (get_or es i default) below) adds has

-- ---- what is added for the first elements of a list

pub adding_start : {E M : Type 0} (ms : List M) (es : List E) (Q : E → M → Type 0)
    → Adds ms ms (λ m. Any (λ e. Q e m) (take 0 es))
adding_start {E} {M} ms es Q =
    adds_none ms (λ m. Any (λ e. Q e m) (take 0 es))
    (λ m h. let below = h.2 in omega (arith, below, length-take 0 es))

pub adding_next : {E M : Type 0} (old mid new : List M) (es : List E) (i : ℕ) (default : E) (Q : E → M → Type 0)
    → i < length es → Adds mid new (λ m. Q (get_or es i default) m)
    → Adds old mid (λ m. Any (λ e. Q e m) (take i es)) → Adds old new (λ m. Any (λ e. Q e m) (take (i + 1) es))
adding_next {E} {M} old mid new es i default Q below more adds =
    let e : E = get_or es i default in
    let is : e ≡ get_or es i e = get_or_default es i default e below in
    let whole : take (i + 1) es ≡ take i es ++ e ∷ [] =
    take_more es i e below ∙ ap (λ (g : E). take i es ++ g ∷ []) (sym is) in
    adds_then old mid new (λ m. Any (λ e. Q e m) (take i es)) (λ m. Q e m)
    (λ m. Any (λ e. Q e m) (take (i + 1) es)) adds more
    (λ m h.
    elim h [
      | inl before ↦ any_before (take i es) (take (i + 1) es) e (λ e. Q e m) whole before
      | inr here ↦ any_here (take i es) (take (i + 1) es) e (λ e. Q e m) whole here
    ])
    (λ m some. any_more (take i es) (take (i + 1) es) e (λ e. Q e m) whole some)

pub adding_end : {E M : Type 0} (old new : List M) (es : List E) (i : ℕ) (Q : E → M → Type 0) → length es ≤ i
    → Adds old new (λ m. Any (λ e. Q e m) (take i es)) → Adds old new (λ m. Any (λ e. Q e m) es)
adding_end {E} {M} old new es i Q past adds =
    subst (λ (l : List E). Adds old new (λ m. Any (λ e. Q e m) l)) (take_all i es past) adds

-- ---- texts

pub text_added : (old new : List (Bor (List ℕ))) (text : Bor (List ℕ)) → new ≡ old ++ text ∷ []
    → Adds (texts_in old) (texts_in new) (λ t. text.now ≡ t)
text_added old new text pushed =
    adds_push (texts_in old) (texts_in new) text.now
    (ap texts_in pushed ∙ map-append (λ (t : Bor (List ℕ)). t.now) old (text ∷ []))

-- the first texts, with one more
pub texts_more : (xs : List (Bor (List ℕ))) (i : ℕ) (x : Bor (List ℕ)) → i < length xs → x ≡ get_or xs i x
    → Adds (texts_in (take i xs)) (texts_in (take (i + 1) xs)) (λ t. x.now ≡ t)
texts_more xs i x below is =
    text_added (take i xs) (take (i + 1) xs) x
    (take_more xs i x below ∙ ap (λ (g : Bor (List ℕ)). take i xs ++ g ∷ []) (sym is))

-- what is added to an empty list
pub just_two : {X : Type 0} (old mid new : List X) (P Q : X → Type 0) → old ≡ [] → Adds old mid P → Adds mid new Q
    → HasJust new (λ x. P x ⊎ Q x)
just_two {X} old mid new P Q none first second x = (
  λ h.
      elim ((second x).0 h) [
        | inl before ↦
            elim ((first x).0 before) [
              | inl old ↦
                  absurd (let inside = subst (λ (l : List X). Contains l x) none old in let below = inside.1 in omega
                  arith)
              | inr p ↦ inl p
            ]
        | inr q ↦ inr q
      ],
  λ h. elim h [ inl p ↦ (second x).1 (inl ((first x).1 (inr p))) | inr q ↦ (second x).1 (inr q) ],
)
