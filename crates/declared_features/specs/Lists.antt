-- What lists have as elements, whatever their order.
use Rattle.std.specs.Prelude.{◌≡◌, ◌<◌, ◌↔◌, ◌⊎◌, ℕ, List, Some, slice_get, Contains, Any}

-- the list has just the elements for which this holds
abbrev pub HasJust : {X : Type 0} → List X → (X → Type 0) → Type 0
HasJust {X} xs P = (x : X) → Contains xs x ↔ P x

-- the second list has the elements of the first, and besides just those for which this holds
abbrev pub Adds : {X : Type 0} → List X → List X → (X → Type 0) → Type 0
Adds {X} old new P = HasJust new (λ x. Contains old x ⊎ P x)

-- the list has elements that belong to each of these keys, and no others
pub record MatchesJust {K X : Type 0} (IsKey : K → Type 0) (Belongs : K → X → Type 0) (xs : List X) : Type 0 where
  pub sound : (x : X) → Contains xs x → (k : K) × IsKey k × Belongs k x
  pub complete : (k : K) → IsKey k → Any (Belongs k) xs

-- this holds for one of the first n elements, with its index
pub record SomeBelow {X : Type 0} (n : ℕ) (xs : List X) (P : ℕ → X → Type 0) : Type 0 where
  pub index : ℕ
  pub element : X
  pub below : index < n
  pub there : slice_get xs index ≡ Some element
  pub such : P index element

-- this holds for one of the elements, with its index
abbrev pub SomeAt : {X : Type 0} → List X → (ℕ → X → Type 0) → Type 0
SomeAt {X} xs P = (i : ℕ) × (x : X) × (slice_get xs i ≡ Some x) × P i x
