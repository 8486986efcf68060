-- Ids, in the order of a document.
use Rattle.std.specs.Prelude.{◌≡◌, ◌<◌, ℕ, List, [], map, length}
use Rattle.std.specs.List.{slice_index_or}
use Rattle.std.specs.Borrow.{Bor}
use Rattle.cargo_metadata.specs.declared.packages.Package.{Package}
use Rattle.cargo_metadata.specs.declared.nodes.Node.{Node}

abbrev pub package_ids : List Package → List (List ℕ)
package_ids packages = map (λ p. p.id.now) packages

abbrev pub node_ids : List Node → List (List ℕ)
node_ids nodes = map (λ n. n.id.now) nodes

abbrev pub member_ids : List (Bor (List ℕ)) → List (List ℕ)
member_ids members = map (λ m. m.now) members

abbrev pub id_at : List (List ℕ) → ℕ → List ℕ
id_at ids i = slice_index_or ids i []

-- the first n ids are different
pub record AreDistinct (ids : List (List ℕ)) (n : ℕ) : Type 0 where
  pub once : (i j : ℕ) → i < n → j < n → id_at ids i ≡ id_at ids j → i ≡ j

-- the first id that occurred before: at the index `again`, and before at `first`
pub record IsFirstRepeat (ids : List (List ℕ)) (first again : ℕ) : Type 0 where
  pub distinct : AreDistinct ids again
  pub before : first < again
  pub inside : again < length ids
  pub same : id_at ids first ≡ id_at ids again
