-- Graphs of packages that have what is declared, without regard to features.
use Rattle.std.specs.Prelude.{◌≡◌, ◌<◌, ℕ, true, false, List, length, Contains}
use Rattle.std.specs.List.{slice_index_or}
use Rattle.package_graphs.specs.Packages as graphs
use Rattle.package_graphs.specs.declared.packages.Dependency as edges
use Rattle.package_graphs.specs.declared.packages.Package as units
use Rattle.cargo_features.specs.Destinations.{is_macro}
use Rattle.known_targets.specs.declared.known.KnownTarget.{KnownTarget}
use Rattle.package_graphs.specs.declared.packages.Kinds.{Kinds}
use Rattle.package_graphs.specs.declared.sides.Side.TheVariants.{Target}
use Rattle.cargo_features.specs.declared.build.BuildOptions.{BuildOptions}
use Rattle.cargo_features.specs.declared.claims.Claim.{Claim}
use Rattle.cargo_features.specs.declared.claims.Claim.TheVariants as claim
use Rattle.cargo_features.specs.declared.packages.Dependency.{Dependency}
use Rattle.cargo_features.specs.declared.packages.Package.{Package}

-- types, as laws name them
abbrev pub Declared : Type 0
Declared = List Package

abbrev pub Graph : Type 0
Graph = List units.Package

abbrev pub Built : Type 0
Built = BuildOptions

-- the package p of the graph has the dependency, whether it is optional or not
pub record HasEdge (graph : List units.Package) (p : ℕ) (d : Dependency) : Type 0 where
  pub edge : edges.Dependency
  pub begins : Contains (graphs.dependencies graph p) edge
  pub to : edge.to ≡ d.to
  pub kind : edge.kind ≡ d.kind
  pub holds : edge.holds ≡ d.holds

-- the package p of the graph is this one, with all its dependencies
pub record IsUnit (graph : List units.Package) (p : ℕ) (unit : Package) : Type 0 where
  pub root : graphs.is_root graph p ≡ unit.is_root
  pub macro : graphs.is_macro graph p ≡ unit.is_macro
  pub edges : (i : ℕ) → i < length unit.dependencies.items → (x : Dependency)
      → HasEdge graph p (slice_index_or unit.dependencies.items i x)

-- the graph has each of the packages at its index
pub record IsGraphOf (packages : List Package) (graph : List units.Package) : Type 0 where
  pub macros : (p : ℕ) → graphs.is_macro graph p ≡ is_macro packages p
  pub each : (p : ℕ) → p < length packages → (x : Package) → IsUnit graph p (slice_index_or packages p x)

-- ---- resolvers

abbrev pub resolver_1 : Kinds → KnownTarget → BuildOptions
resolver_1 kinds host =
    record { kinds = kinds; host = host; by_target = false; by_side = false; with_dev = true }

abbrev pub resolver_2 : Kinds → KnownTarget → BuildOptions
resolver_2 kinds host =
    record { kinds = kinds; host = host; by_target = true; by_side = true; with_dev = kinds.dev }

-- the claim if features are not kept apart by side
abbrev pub joined : Claim → Claim
joined claim.Requested = claim.Requested
joined (claim.Active p from) = claim.Active p Target
joined (claim.Used p from) = claim.Used p from
joined (claim.Feature p from f) = claim.Feature p Target f
joined (claim.Dependency p from d) = claim.Dependency p Target d
