-- The root that makes the package of the current directory active.
use Rattle.std.specs.Prelude.{◌≡◌, ◌<◌, ◌-◌, ◌++◌, ◌∷◌, ℕ, Bool, true, false, List, [], Option, Some, None, All, filter}
use Rattle.std.specs.Prelude.{length, map, slice_get}
use Rattle.known_targets.specs.Sets.{is_member}
use Rattle.known_targets.specs.declared.table.TheConstants.{COUNT}
use Rattle.package_graphs.specs.declared.packages.Kind.{Kind}
use Rattle.package_graphs.specs.declared.packages.Kind.TheVariants.{Normal, Build, Dev}
use Rattle.cargo_features.specs.declared.packages.Dependency.{Dependency}
use Rattle.cargo_features.specs.declared.packages.Package.{Package}

abbrev pub is_dev : Kind → Bool
is_dev Normal = false
is_dev Build = false
is_dev Dev = true

-- the package that a dependency leads to, its kind, and the features that it requests
abbrev pub request_of : Dependency → ℕ × Kind × List ℕ
request_of d = (d.to, d.kind, d.features.items)

-- no build uses the dependency: it is true on no target
pub record IsUnused (d : Dependency) : Type 0 where
  pub required : d.is_optional ≡ false
  pub nowhere : (k : ℕ) → k < COUNT → is_member d.holds k ≡ false
  pub unnamed : d.named ≡ None

-- A root beside the package at the index, which is no root. It requests the last feature of that package, and what the
-- dev-dependencies of that package request.
pub record IsActivationRoot (packages : List Package) (index : ℕ) (root : Package) : Type 0 where
  pub unit : Package
  pub there : slice_get packages index ≡ Some unit
  pub no_root : unit.is_root ≡ false
  pub is_root : root.is_root ≡ true
  pub no_macro : root.is_macro ≡ false
  pub requests : map request_of root.dependencies.items
      ≡ (index, Normal, (length unit.features.items - 1) ∷ [])
      ∷ map request_of (filter (λ d. is_dev d.kind) unit.dependencies.items)
  pub unused : All IsUnused root.dependencies.items
  pub no_features : root.features.items ≡ []
  pub no_requests : root.requested.items ≡ []

-- the package at the index is a root, or there is none
abbrev pub IsActive : List Package → ℕ → Type 0
IsActive packages index = (unit : Package) → slice_get packages index ≡ Some unit → unit.is_root ≡ true

-- the packages, and after them an activation root if that of the current directory is not active
pub data AreActivated (current : Option ℕ) (packages : List Package) : List Package → Type 0 where
  as_before : ((index : ℕ) → current ≡ Some index → IsActive packages index) → AreActivated current packages packages
  with_root : (index : ℕ) (root : Package) → current ≡ Some index → IsActivationRoot packages index root
      → AreActivated current packages (packages ++ root ∷ [])
