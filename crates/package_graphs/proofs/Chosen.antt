-- The elements of a `flat_map`, and of a list of one element or none.
use Rattle.std.proofs.Common.{◌≡◌, zero, suc, Bool, true, false, cond, List, [], ◌∷◌, refl, sym, subst, inl, inr}
use Rattle.std.proofs.Common.{arith}
use Rattle.std.specs.Prelude.{Contains, flat_map}
use Rattle.std.proofs.lemmas.List.Elements.{Contains-append_cases, Contains-append_left, Contains-append_right}

pub first : {X : Type 0} (x : X) (xs : List X) → Contains (x ∷ xs) x
first x xs = (zero, omega arith, refl)

later : {X : Type 0} (x : X) (xs : List X) (y : X) → Contains xs y → Contains (x ∷ xs) y
later x xs y (j, below, is) = (suc j, omega (arith, below), is)

-- some element, from which the other comes
abbrev pub From : {X A : Type 0} → (X → List A) → List X → A → Type 0
From {X} f xs y = (x : X) × Contains xs x × Contains (f x) y

later_from : {X A : Type 0} (f : X → List A) (x : X) (xs : List X) (y : A) → From f xs y → From f (x ∷ xs) y
later_from f x xs y (z, is, of_it) = (z, later x xs z is, of_it)

pub contains_flat_map : {X A : Type 0} (f : X → List A) (xs : List X) (y : A) → Contains (flat_map f xs) y
    → From f xs y
contains_flat_map f [] y (j, below, is) = absurd (omega (arith, below))
contains_flat_map f (x ∷ xs) y h =
    elim (Contains-append_cases (f x) (flat_map f xs) y h) [
      | inl a ↦ (x, first x xs, a)
      | inr b ↦ later_from f x xs y (contains_flat_map f xs y b)
    ]

pub in_flat_map : {X A : Type 0} (f : X → List A) (xs : List X) (x : X) (y : A) → Contains xs x → Contains (f x) y
    → Contains (flat_map f xs) y
in_flat_map f [] x y (j, below, is) h = absurd (omega (arith, below))
in_flat_map {X} f (z ∷ xs) x y (zero, below, is) h =
    Contains-append_left (f z) (flat_map f xs) y (subst (λ (v : X). Contains (f v) y) (sym is) h)
in_flat_map f (z ∷ xs) x y (suc j, below, is) h =
    Contains-append_right (f z) (flat_map f xs) y (in_flat_map f xs x y (j, omega (arith, below), is) h)

pub contains_if : {X : Type 0} (b : Bool) (x y : X) → Contains (cond b (x ∷ []) []) y → (b ≡ true) × (x ≡ y)
contains_if true x y (zero, below, is) = (refl, is)
contains_if true x y (suc j, below, is) = absurd (omega (arith, below))
contains_if false x y (j, below, is) = absurd (omega (arith, below))

pub in_if : {X : Type 0} (b : Bool) (x : X) → b ≡ true → Contains (cond b (x ∷ []) []) x
in_if true x is = first x []
in_if false x is = absurd (cc is)
