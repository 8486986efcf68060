-- Lists that have an element for each key.
use Rattle.std.proofs.Common.{◌≡◌, ℕ, ◌+◌, List, [], ◌∷◌, ◌++◌, get_or, take, refl, sym, ◌∙◌}
use Rattle.std.proofs.Common.{subst, ◌⊎◌, inl, inr, Some, arith}
use Rattle.std.specs.Prelude.{Contains, slice_get}
use Rattle.std.proofs.lemmas.List.{take_more}
use Rattle.std.proofs.lemmas.List.Elements.{Contains-append_left, Contains-append_cases, Contains-push}
use Rattle.std.proofs.lemmas.Option.{slice_get_within, get_or_from_slice_get}
use Rattle.declared_features.specs.Lists.{MatchesJust}
use Rattle.declared_features.proofs.Collecting.{only, any_here, any_before}

pub matches_none : {K X : Type 0} (IsKey : K → Type 0) (Belongs : K → X → Type 0) (xs : List X) → xs ≡ []
    → ((k : K) → IsKey k → ⊥) → MatchesJust IsKey Belongs xs
matches_none {K} {X} IsKey Belongs xs none no_key = record {
  sound = λ x h.
      let inside = subst (λ (l : List X). Contains l x) none h in absurd (let below = inside.1 in omega arith);
  complete = λ k is. absurd (no_key k is);
}

-- the same keys
pub matches_as : {K X : Type 0} (IsKey IsOther : K → Type 0) (Belongs : K → X → Type 0) (xs : List X)
    → ((k : K) → IsKey k → IsOther k) → ((k : K) → IsOther k → IsKey k) → MatchesJust IsKey Belongs xs
    → MatchesJust IsOther Belongs xs
matches_as IsKey IsOther Belongs xs to from matches = record {
  sound = λ x h. let it = matches.sound x h in (it.0, to it.0 it.1, it.2);
  complete = λ k is. matches.complete k (from k is);
}

-- one more key, with its element
pub matches_more : {K X : Type 0} (IsKey : K → Type 0) (Belongs : K → X → Type 0) (xs ys : List X) (k : K) (x : X)
    → ys ≡ xs ++ x ∷ [] → Belongs k x → MatchesJust IsKey Belongs xs
    → MatchesJust (λ other. IsKey other ⊎ (k ≡ other)) Belongs ys
matches_more {K} {X} IsKey Belongs xs ys k x pushed belongs matches = record {
  sound = λ y h.
      elim (Contains-append_cases xs (x ∷ []) y (subst (λ (l : List X). Contains l y) pushed h)) [
        | inl before ↦ let it = matches.sound y before in (it.0, inl it.1, it.2)
        | inr here ↦ (k, inr refl, subst (λ (z : X). Belongs k z) (only x y here) belongs)
      ];
  complete = λ other is.
      elim is [
        | inl before ↦ any_before xs ys x (Belongs other) pushed (matches.complete other before)
        | inr same ↦ any_here xs ys x (Belongs other) pushed (subst (λ (k : K). Belongs k x) same belongs)
      ];
}

-- ---- the first elements of a list

pub taken : {X : Type 0} (xs : List X) (i : ℕ) (x y : X) → slice_get xs i ≡ Some x → Contains (take (i + 1) xs) y
    → Contains (take i xs) y ⊎ (x ≡ y)
taken {X} xs i x y is h =
    let below = slice_get_within xs i x is in
    let at : x ≡ get_or xs i x = sym (get_or_from_slice_get xs i x x is) in
    let split = take_more xs i x below in
    elim (Contains-append_cases (take i xs) (get_or xs i x ∷ []) y (subst (λ (l : List X). Contains l y) split h)) [
      | inl before ↦ inl before
      | inr here ↦ inr (at ∙ only (get_or xs i x) y here)
    ]

pub taken_before : {X : Type 0} (xs : List X) (i : ℕ) (x y : X) → slice_get xs i ≡ Some x → Contains (take i xs) y
    → Contains (take (i + 1) xs) y
taken_before {X} xs i x y is h =
    let below = slice_get_within xs i x is in
    subst (λ (l : List X). Contains l y) (sym (take_more xs i x below))
    (Contains-append_left (take i xs) (get_or xs i x ∷ []) y h)

pub taken_here : {X : Type 0} (xs : List X) (i : ℕ) (x : X) → slice_get xs i ≡ Some x → Contains (take (i + 1) xs) x
taken_here {X} xs i x is =
    let below = slice_get_within xs i x is in
    let at : get_or xs i x ≡ x = get_or_from_slice_get xs i x x is in
    subst (λ (l : List X). Contains l x) (sym (take_more xs i x below))
    (subst (λ (z : X). Contains (take i xs ++ get_or xs i x ∷ []) z) at
    (Contains-push (take i xs) (get_or xs i x)))
