-- The indexes of names or ids in a map.
use Rattle.std.specs.Prelude.{◌≡◌, ◌<◌, ℕ, List, Option, Some, None, cond, length, bytes_eq}
use Rattle.std.specs.Ordering.{nat_cmp}
use Rattle.std.specs.Cmp.Lexicographic.{slice_cmp}
use Rattle.std.specs.BTreeMap as ordered
use Rattle.std.specs.Borrow.{Bor}
use Rattle.cargo_metadata.specs.Ids.{id_at}
use Rattle.cargo_metadata.specs.declared.indexes.Indexes.{Indexes}

-- the index at which a name or an id was added first
abbrev pub index_at : Indexes → List ℕ → Option ℕ
index_at indexes q = ordered.get_by (λ (k : Bor (List ℕ)). slice_cmp nat_cmp q k.now) indexes.first

-- one more id with its index, unless it has one
abbrev pub indexed : Option ℕ → List ℕ → ℕ → List ℕ → Option ℕ → Option ℕ
indexed (Some earlier) id index q old = old
indexed None id index q old = cond (bytes_eq id q) (Some index) old

-- what the table finds after an id is added with its index
abbrev pub index_with : Indexes → List ℕ → ℕ → List ℕ → Option ℕ
index_with indexes id index q = indexed (index_at indexes id) id index q (index_at indexes q)

-- each of the first ids has its index, and nothing else has one
pub record IsIndex (at : List ℕ → Option ℕ) (ids : List (List ℕ)) (n : ℕ) : Type 0 where
  pub sound : (q : List ℕ) (i : ℕ) → at q ≡ Some i → (i < n) × (id_at ids i ≡ q)
  pub complete : (i : ℕ) → i < n → at (id_at ids i) ≡ Some i

-- each of the ids has its index
abbrev pub AreFound : Indexes → List (List ℕ) → Type 0
AreFound indexes ids = IsIndex (index_at indexes) ids (length ids)
