-- The first element for which something holds.
use Rattle.std.proofs.Common.{◌≡◌, ℕ, ◌+◌, ◌<◌, ◌≤◌, List, [], ◌∷◌, ◌++◌, length, get_or, take, sym, ◌∙◌, ap, subst}
use Rattle.std.proofs.Common.{◌⊎◌, inl, inr, Some, arith, refl}
use Rattle.std.specs.Prelude.{All, Any, slice_get}
use Rattle.std.proofs.lemmas.Bool.{cases_lt}
use Rattle.std.proofs.lemmas.List.{take_more, take_all}
use Rattle.std.proofs.lemmas.List.Elements.{All-push}
use Rattle.std.proofs.lemmas.Option.{slice_get_within, slice_get_read, get_or_from_slice_get}
use Rattle.declared_features.specs.MissingEdges.{IsFirst}
use Rattle.declared_features.proofs.Collecting.{any_more}

pub any_at : {X : Type 0} (P : X → Type 0) (xs : List X) (k : ℕ) (x : X) → slice_get xs k ≡ Some x → P x → Any P xs
any_at P xs k x there such = (k, x, slice_get_within xs k x there, get_or_from_slice_get xs k x x there, such)

pub none_next : {X : Type 0} (P : X → Type 0) (xs : List X) (i : ℕ) (x : X) → i < length xs → x ≡ get_or xs i x
    → ¬ P x → ¬ Any P (take i xs) → ¬ Any P (take (i + 1) xs)
none_next {X} P xs i x below is not none some =
    let whole : take (i + 1) xs ≡ take i xs ++ x ∷ [] =
    take_more xs i x below ∙ ap (λ (y : X). take i xs ++ y ∷ []) (sym is) in
    elim (any_more (take i xs) (take (i + 1) xs) x P whole some) [
      | inl before ↦ none before
      | inr here ↦ not here
    ]

pub none_end : {X : Type 0} (P : X → Type 0) (xs : List X) (i : ℕ) → length xs ≤ i → ¬ Any P (take i xs) → ¬ Any P xs
none_end {X} P xs i past none = subst (λ (l : List X). ¬ Any P l) (take_all i xs past) none

pub first_here : {X : Type 0} (P : X → Type 0) (xs : List X) (i : ℕ) (x : X) → i < length xs → x ≡ get_or xs i x → P x
    → ¬ Any P (take i xs) → IsFirst P xs x
first_here P xs i x below is such none = record {
  index = i;
  there = slice_get_read xs (length xs) i x refl below is;
  such = such;
  earlier = none;
}

pub all_next : {X : Type 0} (P : X → Type 0) (xs : List X) (i : ℕ) (default : X) → i < length xs
    → P (get_or xs i default) → All P (take i xs) → All P (take (i + 1) xs)
all_next {X} P xs i default below such all =
    subst (λ (l : List X). All P l) (sym (take_more xs i default below))
    (All-push P (take i xs) (get_or xs i default) all such)

-- ---- one node after the other

pub none_below : (P : ℕ → Type 0) (n : ℕ) → ((k : ℕ) → k < n → ¬ P k) → ¬ P n → (k : ℕ) → k < n + 1 → ¬ P k
none_below P n before not k below such =
    elim (cases_lt k n) [
      | inl less ↦ before k less such
      | inr past ↦
          let is : k ≡ n = omega (arith, below, past) in
          not (subst P is such)
    ]
