-- The targets on which a dependency is followed.
use Rattle.std.specs.Prelude.{◌≡◌, ℕ, IsTrue, List, Option}
use Rattle.known_targets.specs.Sets.{is_member}
use Rattle.known_targets.specs.declared.known.KnownTarget.{KnownTarget}
use Rattle.package_graphs.specs.Kinds.{is_followed}
use Rattle.package_graphs.specs.Packages.{is_root, is_macro, is_on, evaluated_at, side_after}
use Rattle.package_graphs.specs.declared.packages.Kinds.{Kinds}
use Rattle.package_graphs.specs.declared.packages.Dependency.{Dependency}
use Rattle.package_graphs.specs.declared.packages.Package.{Package}
use Rattle.package_graphs.specs.declared.sides.Side.{Side}
use Rattle.package_graphs.specs.declared.package_sets.PackageTargets.{PackageTargets}

-- the package is in the build for one side on the target k, and from there the dependency is followed and its condition
-- is true
pub record IsFollowedAt (sets : PackageTargets) (packages : List Package) (kinds : Kinds) (host : Option KnownTarget)
    (from : ℕ) (d : Dependency) (k : ℕ) : Type 0 where
  pub on : Side
  pub there : IsTrue (is_on sets from on k)
  pub followed : IsTrue (is_followed kinds (is_root packages from) d.kind)
  pub holds : IsTrue (is_member d.holds (evaluated_at host k on d.kind))

-- and it leads to a package that is built for the side
pub record IsFollowedTo (sets : PackageTargets) (packages : List Package) (kinds : Kinds) (host : Option KnownTarget)
    (from : ℕ) (d : Dependency) (to : Side) (k : ℕ) : Type 0 where
  pub follows : IsFollowedAt sets packages kinds host from d k
  pub leads : side_after follows.on d.kind (is_macro packages d.to) ≡ to
