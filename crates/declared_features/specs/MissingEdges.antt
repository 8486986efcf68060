-- The dependencies that are enabled and have no edge, since a document is incomplete.
use Rattle.std.specs.Prelude.{◌≡◌, ◌<◌, ◌⊎◌, ℕ, Bool, true, false, List, [], Option, Some, None, All, Any, Contains}
use Rattle.std.specs.Prelude.{codes, length, take, slice_get, option_and_then, unwrap_or}
use Rattle.std.specs.Option.{option_copied}
use Rattle.serde_json.specs.Data.{Data}
use Rattle.serde_json.specs.Find.{get, as_str}
use Rattle.serde_json.specs.View.{view}
use Rattle.known_targets.specs.declared.table.TheConstants.{COUNT}
use Rattle.package_graphs.specs.declared.packages.Package.{Package as Unit}
use Rattle.package_graphs.specs.declared.sides.Side.{Side}
use Rattle.cargo_metadata.specs.Fields.{list_at}
use Rattle.cargo_metadata.specs.declared.metadata.Metadata.{Metadata}
use Rattle.cargo_metadata.specs.declared.nodes.Dependency.{Dependency as Edge}
use Rattle.cargo_metadata.specs.declared.nodes.Kind.{Kind}
use Rattle.cargo_metadata.specs.declared.nodes.Kind.TheVariants.{Dev}
use Rattle.cargo_features.specs.Resolved.{holds_in}
use Rattle.cargo_features.specs.declared.claims.Claim.TheVariants as claim
use Rattle.cargo_features.specs.declared.resolved.Resolved.{Resolved}
use Rattle.declared_features.specs.Edges.{IsLike, IsOf, name_at}
use Rattle.declared_features.specs.Entries.{IsEntry}
use Rattle.declared_features.specs.Lists.{SomeAt}
use Rattle.declared_features.specs.Manifests.{dependencies_at, features_at, IsWithoutLibrary}
use Rattle.declared_features.specs.Requested.{is_concerned, IsRequestedText}
use Rattle.declared_features.specs.Requests.{toml_name}
use Rattle.declared_features.specs.Rows.{kinds_at, links_at, IsRowAt}
use Rattle.declared_features.specs.declared.declaring.DeclaredGraph.{DeclaredGraph}
use Rattle.declared_features.specs.declared.declaring.DependencyRow.{DependencyRow}
use Rattle.declared_features.specs.declared.entries.FeatureEntry.{FeatureEntry}
use Rattle.declared_features.specs.declared.entries.FeatureEntry.TheVariants as entry
use Rattle.declared_features.specs.declared.linking.RequestedFeatures.{RequestedFeatures}
use Rattle.declared_features.specs.declared.manifests.DeclaredDependency.{DeclaredDependency}
use Rattle.declared_features.specs.declared.manifests.Feature.{Feature}
use Rattle.declared_features.specs.declared.missing_edges.MissingEdge.{MissingEdge}

-- ---- what features turn on

-- `dep:d` and `d/f` turn on `d`, and `d?/f` turns on nothing
abbrev pub turned_on_by : FeatureEntry → Option (List ℕ)
turned_on_by (entry.Feature f) = None
turned_on_by (entry.Dependency d) = Some d.now
turned_on_by (entry.Strong d f) = Some d.now
turned_on_by (entry.Weak d f) = None

-- one of the entries turns on the dependencies of this name
abbrev pub TurnOn : List FeatureEntry → List ℕ → Type 0
TurnOn entries name = Any (λ entry. turned_on_by entry ≡ Some name) entries

-- the features that the document lists at a node, in `resolve.nodes[node].features`
abbrev pub listed_features : Data → ℕ → Option (List Data)
listed_features document node =
    option_and_then (list_at (codes "features"))
    (option_and_then (λ nodes. slice_get nodes node)
    (option_and_then (list_at (codes "nodes")) (get (codes "resolve") document)))

abbrev pub IsListed : Data → ℕ → List ℕ → Type 0
IsListed document node feature = Any (λ d. as_str d ≡ Some feature) (unwrap_or (listed_features document node) [])

-- a feature that the document lists turns on the dependencies of this name
abbrev pub IsTurnedOnIn : Data → ℕ → List Feature → List ℕ → Type 0
IsTurnedOnIn document node features name =
    Any (λ feature. IsListed document node feature.name.now × TurnOn feature.lists.items name) features

-- ---- edges

-- the row is that of an edge of the node
abbrev pub IsEdgeAt : DeclaredGraph → ℕ → DependencyRow → Type 0
IsEdgeAt graph node row =
    (k : ℕ) × IsRowAt (kinds_at graph.metadata.now node) (links_at graph.linked.now node) k row

-- an edge of the node belongs to the dependency
pub record HasEdge (graph : DeclaredGraph) (node : ℕ) (declared : DeclaredDependency) : Type 0 where
  pub row : DependencyRow
  pub there : IsEdgeAt graph node row
  pub belongs : IsOf graph node row declared

-- an edge of the node has the kind and the condition of the dependency, and leads to a package of its name
pub record HasSimilarEdge (graph : DeclaredGraph) (node : ℕ) (declared : DeclaredDependency) : Type 0 where
  pub row : DependencyRow
  pub there : IsEdgeAt graph node row
  pub alike : IsLike row declared
  pub to : name_at graph row.linked.to ≡ declared.name.now

-- a package of this name has no library
abbrev pub LacksLibrary : DeclaredGraph → List ℕ → Type 0
LacksLibrary graph name =
    IsWithoutLibrary graph.metadata.now.packages.items graph.declared.now.manifests.items name

-- a package of the name has no library, so that Cargo gives the dependency no edge
abbrev pub HasNoLibrary : DeclaredGraph → DeclaredDependency → Type 0
HasNoLibrary graph declared = LacksLibrary graph declared.name.now

-- ---- the first one

-- the element is the first one for which this holds
pub record IsFirst {X : Type 0} (P : X → Type 0) (xs : List X) (x : X) : Type 0 where
  pub index : ℕ
  pub there : slice_get xs index ≡ Some x
  pub such : P x
  pub earlier : ¬ Any P (take index xs)

-- by the order of the nodes, and then by that in which their packages declare dependencies, this is the first for which
-- this holds
pub record IsFirstMissing (graph : DeclaredGraph) (P : ℕ → DeclaredDependency → Type 0) (found : MissingEdge) : Type
    0 where
  pub node : found.node < length graph.metadata.now.nodes.items
  pub declared : IsFirst (P found.node) (dependencies_at graph.declared.now found.node) found.declared.now
  pub earlier : (k : ℕ) → k < found.node → ¬ Any (P k) (dependencies_at graph.declared.now k)

-- it holds for no dependency of any node
abbrev pub IsNoneMissing : DeclaredGraph → (ℕ → DeclaredDependency → Type 0) → Type 0
IsNoneMissing graph P =
    (k : ℕ) → k < length graph.metadata.now.nodes.items → ¬ Any (P k) (dependencies_at graph.declared.now k)

-- ---- a filtered document

-- all kinds of the edge have this condition
pub record HasOnlyCondition (edge : Edge) (condition : List ℕ) : Type 0 where
  pub some : Any (λ row. option_copied row.condition ≡ Some condition) edge.kinds.items
  pub all : All (λ row. option_copied row.condition ≡ Some condition) edge.kinds.items

-- A filter kept this condition: all kinds of some edge have it. Had the filter left out another edge for its condition,
-- it would have left out this one too.
abbrev pub IsKept : Metadata → List ℕ → Type 0
IsKept metadata condition =
    Any (λ node. Any (λ edge. HasOnlyCondition edge condition) node.dependencies.items) metadata.nodes.items

abbrev pub is_root_in : Option Unit → Bool
is_root_in None = false
is_root_in (Some unit) = unit.is_root

abbrev pub is_root_at : DeclaredGraph → ℕ → Bool
is_root_at graph node = is_root_in (slice_get graph.linked.now.packages.items node)

-- A filter may have left out the edge of this dependency: its condition is not one that the filter kept, and it has an
-- edge in a whole document. Only roots have dev-dependencies there.
pub record MayBeFiltered (graph : DeclaredGraph) (node : ℕ) (declared : DeclaredDependency) : Type 0 where
  pub condition : List ℕ
  pub is : option_copied declared.condition ≡ Some condition
  pub left_out : ¬ IsKept graph.metadata.now condition
  pub used : declared.kind ≡ Dev → is_root_at graph node ≡ true
  pub library : ¬ HasNoLibrary graph declared

-- the dependency of the node is enabled, a filter may have left it out, and it has no edge
pub record IsFilteredOut (graph : DeclaredGraph) (node : ℕ) (declared : DeclaredDependency) : Type 0 where
  pub enabled : declared.is_optional ≡ true
      → IsTurnedOnIn (view graph.document.now) node (features_at graph.declared.now node) (toml_name declared)
  pub may_be : MayBeFiltered graph node declared
  pub no_edge : ¬ HasSimilarEdge graph node declared

-- ---- a document that was made with too few features

-- the feature of the node is enabled on a target, on some side
pub record IsEnabled (resolved : Resolved) (node feature : ℕ) : Type 0 where
  pub target : ℕ
  pub known : target < COUNT
  pub side : Side
  pub holds : holds_in resolved (claim.Feature node side feature) target ≡ true

-- an enabled feature of the node turns on the dependencies of this name
abbrev pub IsTurnedOnByFeature : DeclaredGraph → Resolved → ℕ → List ℕ → Type 0
IsTurnedOnByFeature graph resolved node name =
    SomeAt (features_at graph.declared.now node)
    (λ i feature. IsEnabled resolved node i × TurnOn feature.lists.items name)

-- a text that is requested of the package of the node spells an entry that turns them on
pub record IsTurnedOnByRequest (graph : DeclaredGraph) (requested : RequestedFeatures) (node : ℕ) (name : List ℕ)
    : Type 0 where
  pub unit : Unit
  pub there : slice_get graph.linked.now.packages.items node ≡ Some unit
  pub concerned : is_concerned requested node unit ≡ true
  pub text : List ℕ
  pub is_requested : IsRequestedText requested (name_at graph node) node text
  pub entry : FeatureEntry
  pub spelled : IsEntry text entry
  pub turns_on : turned_on_by entry ≡ Some name

abbrev pub IsTurnedOn : DeclaredGraph → Resolved → RequestedFeatures → ℕ → List ℕ → Type 0
IsTurnedOn graph resolved requested node name =
    IsTurnedOnByFeature graph resolved node name ⊎ IsTurnedOnByRequest graph requested node name

-- The optional dependency of the node is turned on, was not turned on in the document, and has no edge, while its
-- package has a library.
pub record IsNewlyEnabled (graph : DeclaredGraph) (resolved : Resolved) (requested : RequestedFeatures) (node : ℕ)
    (declared : DeclaredDependency) : Type 0 where
  pub optional : declared.is_optional ≡ true
  pub enabled : IsTurnedOn graph resolved requested node (toml_name declared)
  pub newly : ¬ IsTurnedOnIn (view graph.document.now) node (features_at graph.declared.now node) (toml_name declared)
  pub library : ¬ HasNoLibrary graph declared
  pub no_edge : ¬ HasEdge graph node declared
