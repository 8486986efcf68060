-- The dependencies of a package, as the feature resolver takes them.
use Rattle.std.specs.Prelude.{◌≡◌, ◌⊎◌, ℕ, true, List, Some, Any, Contains, codes, unwrap_or}
use Rattle.std.specs.Option.{option_copied}
use Rattle.declared_features.specs.Lists.{HasJust, MatchesJust}
use Rattle.declared_features.specs.Edges.{IsOf}
use Rattle.declared_features.specs.Manifests.{dependencies_at}
use Rattle.declared_features.specs.Members.{FeatureIndexes}
use Rattle.declared_features.specs.Rows.{kinds_at, links_at, AreRowsOf}
use Rattle.declared_features.specs.declared.declaring.DeclaredGraph.{DeclaredGraph}
use Rattle.declared_features.specs.declared.declaring.DependencyRow.{DependencyRow}
use Rattle.declared_features.specs.declared.linking.Named.{Named}
use Rattle.declared_features.specs.declared.manifests.DeclaredDependency.{DeclaredDependency}

-- the name that the manifest gives the dependency
abbrev pub toml_name : DeclaredDependency → List ℕ
toml_name declared = unwrap_or (option_copied declared.rename) declared.name.now

-- the dependency uses `default`, which is at this index of its package
pub record IsDefault (at : FeatureIndexes) (to : ℕ) (declared : DeclaredDependency) (index : ℕ) : Type 0 where
  pub uses : declared.uses_default ≡ true
  pub feature : at to (codes "default") ≡ Some index

-- the dependency requests the feature at this index of its package: one that it lists, or `default`
abbrev pub IsRequested : FeatureIndexes → ℕ → DeclaredDependency → ℕ → Type 0
IsRequested at to declared index =
    Any (λ feature. at to feature.now ≡ Some index) declared.features.items ⊎ IsDefault at to declared index

-- the dependency of a node's package, as it is declared, with its edge
pub record IsNamedOf (at : FeatureIndexes) (node : ℕ) (row : DependencyRow) (declared : DeclaredDependency)
    (found : Named) : Type 0 where
  pub name : found.name.now ≡ toml_name declared
  pub to : found.dependency.to ≡ row.linked.to
  pub kind : found.dependency.kind ≡ row.linked.kind
  pub optional : found.dependency.is_optional ≡ declared.is_optional
  pub holds : found.dependency.holds ≡ row.linked.holds
  pub features : HasJust found.dependency.features.items (IsRequested at row.linked.to declared)
  pub own : found.dependency.named ≡ at node (toml_name declared)
  pub edge : found.edge ≡ row.index

-- the edge is one of the rows, belongs to the dependency, and this is one of the declared ones
pub record IsLink (graph : DeclaredGraph) (node : ℕ) (rows : List DependencyRow) (declared : List DeclaredDependency)
    (link : DependencyRow × DeclaredDependency)
    : Type 0 where
  pub row_is : Contains rows link.0
  pub declared_is : Contains declared link.1
  pub belongs : IsOf graph node link.0 link.1

-- they are the dependencies that the package of a node declares and that have edges
pub record AreDependenciesOf (graph : DeclaredGraph) (at : FeatureIndexes) (node : ℕ)
    (found : List Named) : Type 0 where
  pub rows : List DependencyRow
  pub rows_are : AreRowsOf (kinds_at graph.metadata.now node) (links_at graph.linked.now node) rows
  pub matches : MatchesJust (IsLink graph node rows (dependencies_at graph.declared.now node))
      (λ link found. IsNamedOf at node link.0 link.1 found) found
