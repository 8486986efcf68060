-- Keys of edges that have a condition.
use Rattle.std.specs.Prelude.{◌≡◌, ◌↔◌, ◌⊎◌, ℕ, List, Some, IsTrue}
use Rattle.std.specs.Option.{option_copied}
use Rattle.std.specs.BTreeSet.{BTreeSet, contains_by}
use Rattle.std.specs.Borrow.{Bor}
use Rattle.std.specs.Cmp.Lexicographic.{slice_cmp}
use Rattle.std.specs.Ordering.{nat_cmp, ordering_then}
use Rattle.std.specs.declared.cmp.Ordering.{Ordering}
use Rattle.cargo_metadata.specs.declared.nodes.Kind.{Kind}
use Rattle.cargo_metadata.specs.declared.nodes.Kind.TheVariants.{Normal, Build, Dev}
use Rattle.declared_features.specs.Edges.{name_at}
use Rattle.declared_features.specs.MissingEdges.{IsEdgeAt}
use Rattle.declared_features.specs.declared.declaring.DeclaredGraph.{DeclaredGraph}
use Rattle.declared_features.specs.declared.declaring.DependencyRow.{DependencyRow}

-- the name of a package, a condition and a kind
abbrev pub EdgeKey : Type 0
EdgeKey = (List ℕ × List ℕ) × Kind

-- as the code has them
abbrev pub StoredKey : Type 0
StoredKey = (Bor (List ℕ) × Bor (List ℕ)) × ℕ

abbrev pub kind_number : Kind → ℕ
kind_number Normal = 0
kind_number Build = 1
kind_number Dev = 2

abbrev pub key_cmp : EdgeKey → StoredKey → Ordering
key_cmp key stored =
    ordering_then
    (ordering_then (slice_cmp nat_cmp key.0.0 stored.0.0.now) (slice_cmp nat_cmp key.0.1 stored.0.1.now))
    (nat_cmp (kind_number key.1) stored.1)

abbrev pub HasKey : BTreeSet StoredKey → EdgeKey → Type 0
HasKey keys key = IsTrue (contains_by (key_cmp key) keys)

-- the key is that of the row
pub record IsKeyOf (graph : DeclaredGraph) (row : DependencyRow) (key : EdgeKey) : Type 0 where
  pub to : name_at graph row.linked.to ≡ key.0.0
  pub condition : option_copied row.kind.condition ≡ Some key.0.1
  pub kind : row.kind.kind ≡ key.1

-- the second set has the keys of the first, and besides just those for which this holds
abbrev pub AddsKeys : BTreeSet StoredKey → BTreeSet StoredKey → (EdgeKey → Type 0) → Type 0
AddsKeys old new P = (key : EdgeKey) → HasKey new key ↔ (HasKey old key ⊎ P key)

-- an edge of the node has the key
pub record HasEdgeWith (graph : DeclaredGraph) (node : ℕ) (key : EdgeKey) : Type 0 where
  pub row : DependencyRow
  pub there : IsEdgeAt graph node row
  pub key_is : IsKeyOf graph row key
