-- The kinds of the dependencies of a node, beside the edges of the graph.
use Rattle.std.specs.Prelude.{◌≡◌, ◌<◌, ℕ, List, [], Option, Some, None, map, flat_map, length, slice_get}
use Rattle.cargo_metadata.specs.declared.graphs.linking.Linked.{Linked}
use Rattle.cargo_metadata.specs.declared.metadata.Metadata.{Metadata}
use Rattle.cargo_metadata.specs.declared.nodes.Dependency.{Dependency as Edge}
use Rattle.cargo_metadata.specs.declared.nodes.KindRow.{KindRow}
use Rattle.cargo_metadata.specs.declared.nodes.Node.{Node}
use Rattle.package_graphs.specs.declared.packages.Dependency.{Dependency as LinkedEdge}
use Rattle.package_graphs.specs.declared.packages.Package.{Package as Unit}
use Rattle.declared_features.specs.declared.declaring.DependencyRow.{DependencyRow}

-- a dependency of a node, of one of its kinds
abbrev pub EdgeKind : Type 0
EdgeKind = Edge × KindRow

abbrev pub of_kind : Edge → KindRow → EdgeKind
of_kind edge kind = (edge, kind)

abbrev pub kinds_by : Edge → List EdgeKind
kinds_by edge = map (of_kind edge) edge.kinds.items

abbrev pub kinds_of : List Edge → List EdgeKind
kinds_of edges = flat_map kinds_by edges

abbrev pub kinds_in : Option Node → List EdgeKind
kinds_in None = []
kinds_in (Some written) = kinds_of written.dependencies.items

abbrev pub links_in : Option Unit → List LinkedEdge
links_in None = []
links_in (Some unit) = unit.dependencies.items

-- the kinds of the dependencies that a document gives a node
abbrev pub kinds_at : Metadata → ℕ → List EdgeKind
kinds_at metadata node = kinds_in (slice_get metadata.nodes.items node)

-- the edges that a graph has for them
abbrev pub links_at : Linked → ℕ → List LinkedEdge
links_at linked node = links_in (slice_get linked.packages.items node)

-- the row is that of the kind at the index k
pub record IsRowAt (kinds : List EdgeKind) (links : List LinkedEdge) (k : ℕ) (row : DependencyRow) : Type 0 where
  pub index : row.index ≡ k
  pub kind : slice_get kinds k ≡ Some (of_kind row.edge.now row.kind)
  pub link : slice_get links k ≡ Some row.linked

-- the rows are those of all kinds that have edges, in order
pub record AreRowsOf (kinds : List EdgeKind) (links : List LinkedEdge) (rows : List DependencyRow) : Type 0 where
  pub each : (k : ℕ) (row : DependencyRow) → slice_get rows k ≡ Some row → IsRowAt kinds links k row
  pub all : (k : ℕ) → k < length kinds → k < length links → k < length rows
