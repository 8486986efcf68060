-- What the packages of nodes declare.
use Rattle.std.specs.Prelude.{◌≡◌, ℕ, List, [], Option, Some, None, bytes_eq, slice_get, length}
use Rattle.std.specs.Prelude.{option_and_then, unwrap_or}
use Rattle.std.specs.List.{position_from}
use Rattle.cargo_metadata.specs.declared.nodes.Node.{Node}
use Rattle.cargo_metadata.specs.declared.packages.Package.{Package}
use Rattle.declared_features.specs.declared.declaring.Declarations.{Declarations}
use Rattle.declared_features.specs.declared.manifests.Feature.{Feature}
use Rattle.declared_features.specs.declared.manifests.DeclaredDependency.{DeclaredDependency}
use Rattle.declared_features.specs.declared.manifests.PackageDeclaration.{PackageDeclaration}

-- the index of the first package with an id
abbrev pub index_of_id : List Package → List ℕ → Option ℕ
index_of_id packages q = position_from (λ p. bytes_eq p.id.now q) 0 packages

-- the index of the package of a node, or that after the last one
abbrev pub package_index : List Package → Node → ℕ
package_index packages node = unwrap_or (index_of_id packages node.id.now) (length packages)

-- the index of the first feature with a name
abbrev pub feature_index : List Feature → List ℕ → Option ℕ
feature_index features q = position_from (λ f. bytes_eq f.name.now q) 0 features

abbrev pub manifest_at : Declarations → ℕ → Option PackageDeclaration
manifest_at declarations node =
    option_and_then (λ p. slice_get declarations.manifests.items p) (slice_get declarations.package_indexes.items node)

abbrev pub features_in : Option PackageDeclaration → List Feature
features_in None = []
features_in (Some manifest) = manifest.features.items

abbrev pub dependencies_in : Option PackageDeclaration → List DeclaredDependency
dependencies_in None = []
dependencies_in (Some manifest) = manifest.dependencies.items

abbrev pub features_at : Declarations → ℕ → List Feature
features_at declarations node = features_in (manifest_at declarations node)

abbrev pub dependencies_at : Declarations → ℕ → List DeclaredDependency
dependencies_at declarations node = dependencies_in (manifest_at declarations node)

-- a package of this name has no library
pub record IsWithoutLibrary (packages : List Package) (manifests : List PackageDeclaration) (name : List ℕ) : Type
    0 where
  pub index : ℕ
  pub unit : Package
  pub manifest : PackageDeclaration
  pub there : slice_get packages index ≡ Some unit
  pub declares : slice_get manifests index ≡ Some manifest
  pub named : unit.name.now ≡ name
  pub none : manifest.library ≡ None
