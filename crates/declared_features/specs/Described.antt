-- The packages of a graph with what each declares, as the feature resolver takes them.
use Rattle.std.specs.Prelude.{◌≡◌, ◌<◌, ◌-◌, ◌++◌, ◌∷◌, ℕ, List, [], Some, Vec, cond, length, map, slice_get}
use Rattle.std.specs.Global.{Global}
use Rattle.cargo_features.specs.declared.packages.Package.{Package}
use Rattle.package_graphs.specs.declared.packages.Package.{Package as Unit}
use Rattle.declared_features.specs.Manifests.{feature_index, features_at}
use Rattle.declared_features.specs.Members.{FeatureIndexes, SomeStandsFor, HasListsOf}
use Rattle.declared_features.specs.Requests.{AreDependenciesOf}
use Rattle.declared_features.specs.Requested.{is_concerned, AreRequested, HasLast}
use Rattle.declared_features.specs.Edges.{name_at}
use Rattle.declared_features.specs.declared.declaring.Declarations.{Declarations}
use Rattle.declared_features.specs.declared.declaring.DeclaredGraph.{DeclaredGraph}
use Rattle.declared_features.specs.declared.linking.ResolverInput.{ResolverInput}
use Rattle.declared_features.specs.declared.linking.Named.{Named}
use Rattle.declared_features.specs.declared.linking.RequestedFeatures.{RequestedFeatures}

-- a feature of a node's package by its name, as the document declares it
abbrev pub declared_indexes : Declarations → FeatureIndexes
declared_indexes declarations node q = feature_index (features_at declarations node) q

-- the package of a node, and for each of its dependencies the index among those of the graph
pub record IsDescribed (graph : DeclaredGraph) (requested : RequestedFeatures) (at : FeatureIndexes) (node : ℕ)
    (unit_of : Package) (edges : List ℕ) : Type 0 where
  pub unit : Unit
  pub there : slice_get graph.linked.now.packages.items node ≡ Some unit
  pub root : unit_of.is_root ≡ unit.is_root
  pub macro : unit_of.is_macro ≡ unit.is_macro
  pub found : List Named
  pub found_are : AreDependenciesOf graph at node found
  pub dependencies : unit_of.dependencies.items ≡ map (λ one. one.dependency) found
  pub edges_are : edges ≡ map (λ one. one.edge) found
  pub features : HasListsOf (SomeStandsFor at node found) (features_at graph.declared.now node) unit_of.features.items
  pub last : HasLast (is_concerned requested node unit)
      (AreRequested requested (name_at graph node) at node found (length (features_at graph.declared.now node)))
      (length (features_at graph.declared.now node)) unit_of.features.items
  pub requests : unit_of.requested.items ≡ cond unit.is_root ((length unit_of.features.items - 1) ∷ []) []

-- the described package at the index of a node is that of the node
pub record IsDescribedAt (graph : DeclaredGraph) (requested : RequestedFeatures) (at : FeatureIndexes)
    (packages : List Package) (edges : List (Vec ℕ Global)) (node : ℕ) : Type 0 where
  pub package_at : Package
  pub edges_at : Vec ℕ Global
  pub there : slice_get packages node ≡ Some package_at
  pub beside : slice_get edges node ≡ Some edges_at
  pub is : IsDescribed graph requested at node package_at edges_at.items

-- each node's package is described
abbrev pub AreDescribed : DeclaredGraph → RequestedFeatures → ResolverInput → Type 0
AreDescribed graph requested described =
    (node : ℕ) → node < length graph.linked.now.packages.items
    → IsDescribedAt graph requested (declared_indexes graph.declared.now) described.packages.items
    described.edges.items node

-- the described packages are those from before, and maybe more
pub record KeepsDescribed (old new : ResolverInput) : Type 0 where
  pub more : List Package
  pub packages : new.packages.items ≡ old.packages.items ++ more
  pub more_edges : List (Vec ℕ Global)
  pub edges : new.edges.items ≡ old.edges.items ++ more_edges
