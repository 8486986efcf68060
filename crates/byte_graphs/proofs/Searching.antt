-- What is found in a list, place by place.
use Rattle.std.proofs.Common.{◌≡◌, ℕ, ◌+◌, ◌<◌, List, length, get_or, sym, subst, arith}
use Rattle.std.specs.Prelude.{Any}
use Rattle.cargo_metadata.proofs.Adding.{before_more}

-- none of the first i elements has P
abbrev pub NoneBefore : {X : Type 0} → (X → Type 0) → List X → ℕ → Type 0
NoneBefore {X} P xs i = (k : ℕ) (x : X) → k < i → P (get_or xs k x) → ⊥

pub none_more : {X : Type 0} (P : X → Type 0) (xs : List X) (i : ℕ) (x : X) → i < length xs → x ≡ get_or xs i x
    → NoneBefore P xs i → (P x → ⊥) → NoneBefore P xs (i + 1)
none_more P xs i x below is before none = before_more (λ y. P y → ⊥) xs i x below is before none

pub found_at : {X : Type 0} (P : X → Type 0) (xs : List X) (i : ℕ) (x : X) → i < length xs → x ≡ get_or xs i x → P x
    → Any P xs
found_at P xs i x below is has = (i, x, below, sym is, has)

pub none_at_all : {X : Type 0} (P : X → Type 0) (xs : List X) (i : ℕ) → (i < length xs → ⊥) → NoneBefore P xs i
    → Any P xs → ⊥
none_at_all P xs i end none found =
    none found.0 found.1 (omega (arith, found.2, end)) (subst P (sym found.3) found.4)
