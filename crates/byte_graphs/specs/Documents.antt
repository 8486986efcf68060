-- The output of `cargo metadata`, as a call may find it: a graph, a graph with a condition that is too deep, or
-- neither.
use Rattle.std.specs.Prelude.{◌≡◌, ◌⊎◌, ℕ, false, List, Any, Option, Some, None}
use Rattle.std.specs.Borrow.{Bor}
use Rattle.serde_json.specs.Data.{Data}
use Rattle.serde_json.specs.Read.{read as read_text}
use Rattle.byte_answers.specs.Depths.{IsTooDeep}
use Rattle.cargo_metadata.specs.declared.metadata.Metadata.{Metadata}
use Rattle.cargo_metadata.specs.declared.nodes.Node.{Node}
use Rattle.cargo_metadata.specs.declared.nodes.Dependency.{Dependency}
use Rattle.cargo_metadata.specs.declared.nodes.KindRow.{KindRow}
use Rattle.cargo_metadata.specs.declared.refusals.MetadataError.{MetadataError}
use Rattle.cargo_metadata.specs.declared.graphs.refusals.GraphError.{GraphError}
use Rattle.cargo_metadata.specs.declared.graphs.linking.Linked.{Linked}
use Rattle.cargo_metadata.specs.Documents.{IsMetadata, IsRefused, is_memory}
use Rattle.cargo_metadata.specs.Links.{IsLinked}
use Rattle.cargo_metadata.specs.Refusals.{IsUnlinked, is_memory as is_memory_of_graph}

-- ---- conditions that are too deep

abbrev pub IsDeepCondition : Option (Bor (List ℕ)) → Type 0
IsDeepCondition None = ⊥
IsDeepCondition (Some text) = IsTooDeep text.now

abbrev pub IsDeepRow : KindRow → Type 0
IsDeepRow row = IsDeepCondition row.condition

abbrev pub HasDeepKind : Dependency → Type 0
HasDeepKind d = Any IsDeepRow d.kinds.items

abbrev pub HasDeepDependency : Node → Type 0
HasDeepDependency n = Any HasDeepKind n.dependencies.items

abbrev pub HasDeepCondition : Metadata → Type 0
HasDeepCondition m = Any HasDeepDependency m.nodes.items

-- ---- JSON

-- it has what a graph needs, no condition is too deep, and ids and conditions form a graph
abbrev pub IsGraphData : Data → Type 0
IsGraphData d =
    (m : Metadata) × (linked : Linked) × (IsMetadata d m × (HasDeepCondition m → ⊥) × IsLinked m linked)

-- it has what a graph needs, and a condition is too deep
abbrev pub IsDeepData : Data → Type 0
IsDeepData d = (m : Metadata) × (IsMetadata d m × HasDeepCondition m)

-- it does not have what a graph needs, for a reason other than a lack of memory
abbrev pub IsNoMetadata : Data → Type 0
IsNoMetadata d = (r : MetadataError) × (IsRefused d r × (is_memory r ≡ false))

-- no condition is too deep, and ids or conditions form no graph, for a reason other than a lack of memory
abbrev pub IsNoGraph : Data → Type 0
IsNoGraph d =
    (m : Metadata) × (r : GraphError)
    × (IsMetadata d m × (HasDeepCondition m → ⊥) × IsUnlinked m r × (is_memory_of_graph r ≡ false))

abbrev pub IsUnusableData : Data → Type 0
IsUnusableData d = IsNoMetadata d ⊎ IsNoGraph d

-- ---- texts

abbrev pub IsJsonOf : (Data → Type 0) → List ℕ → Type 0
IsJsonOf P text = (d : Data) × ((read_text text ≡ Some d) × P d)

abbrev pub IsGraph : List ℕ → Type 0
IsGraph text = IsJsonOf IsGraphData text

abbrev pub IsDeepGraph : List ℕ → Type 0
IsDeepGraph text = IsJsonOf IsDeepData text

-- it is not JSON, or JSON of no graph
abbrev pub IsUnusable : List ℕ → Type 0
IsUnusable text = (read_text text ≡ None) ⊎ IsJsonOf IsUnusableData text
