-- Which declared dependency an edge of the graph belongs to.
use Rattle.std.specs.Prelude.{◌≡◌, ◌==◌, ℕ, Bool, true, false, cond, List, [], Option, Some, None, map, slice_get}
use Rattle.std.specs.Prelude.{unwrap_or}
use Rattle.std.specs.Option.{option_copied}
use Rattle.std.specs.Borrow.{Bor}
use Rattle.cargo_metadata.specs.declared.packages.Package.{Package as ResolverInput}
use Rattle.declared_features.specs.Manifests.{manifest_at}
use Rattle.declared_features.specs.declared.declaring.DeclaredGraph.{DeclaredGraph}
use Rattle.declared_features.specs.declared.declaring.DependencyRow.{DependencyRow}
use Rattle.declared_features.specs.declared.manifests.DeclaredDependency.{DeclaredDependency}
use Rattle.declared_features.specs.declared.manifests.PackageDeclaration.{PackageDeclaration}

-- the name with each `-` as `_`, as in code
abbrev pub underscored : List ℕ → List ℕ
underscored name = map (λ b. cond (b == 45) 95 b) name

abbrev pub AreSame : List ℕ → List ℕ → Type 0
AreSame name other = underscored name ≡ underscored other

abbrev pub name_in : Option ResolverInput → List ℕ
name_in None = []
name_in (Some described) = described.name.now

-- the name of a node's package
abbrev pub name_at : DeclaredGraph → ℕ → List ℕ
name_at graph node = name_in (slice_get graph.linked.now.described.items node)

abbrev pub library_in : List ℕ → Option PackageDeclaration → List ℕ
library_in name None = name
library_in name (Some manifest) = unwrap_or (option_copied manifest.library) name

-- the name of the library of a node's package, which is that of the package unless another one is declared
abbrev pub library_at : DeclaredGraph → ℕ → List ℕ
library_at graph node = library_in (name_at graph node) (manifest_at graph.declared.now node)

-- what code calls a dependency: as it is renamed, or else by its library's name; in a package that depends on itself,
-- by
-- its own library's name
abbrev pub called : Bool → Option (Bor (List ℕ)) → List ℕ → List ℕ
called true rename library = library
called false rename library = unwrap_or (option_copied rename) library

abbrev pub code_name : DeclaredGraph → ℕ → ℕ → DeclaredDependency → List ℕ
code_name graph node to declared = called (node == to) declared.rename (library_at graph to)

-- an edge without a name may have any
abbrev pub MayBeCalled : Option (Bor (List ℕ)) → List ℕ → Type 0
MayBeCalled None name = Unit {0}
MayBeCalled (Some found) name = AreSame found.now name

-- the edge has the kind and the condition of the declared dependency
pub record IsLike (row : DependencyRow) (declared : DeclaredDependency) : Type 0 where
  pub kind : row.kind.kind ≡ declared.kind
  pub condition : option_copied row.kind.condition ≡ option_copied declared.condition

-- the edge of a node belongs to the dependency that its package declares
pub record IsOf (graph : DeclaredGraph) (node : ℕ) (row : DependencyRow) (declared : DeclaredDependency) : Type 0 where
  pub alike : IsLike row declared
  pub to : name_at graph row.linked.to ≡ declared.name.now
  pub code : MayBeCalled row.edge.now.name (code_name graph node row.linked.to declared)
