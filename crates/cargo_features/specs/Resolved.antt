-- The results for a build.
use Rattle.std.specs.Prelude.{◌≡◌, ◌&&◌, ℕ, Bool, IsTrue, List, Some, slice_get}
use Rattle.package_graphs.specs.Kinds.{is_followed}
use Rattle.package_graphs.specs.declared.sides.Side.{Side}
use Rattle.cargo_features.specs.Claims.{holds_at}
use Rattle.cargo_features.specs.Steps.{required_claim}
use Rattle.cargo_features.specs.Destinations.{destination, feature_side}
use Rattle.cargo_features.specs.Inside.Numbered.{AreNumbers}
use Rattle.cargo_features.specs.Inside.Exact.{has}
use Rattle.cargo_features.specs.declared.build.BuildOptions.{BuildOptions}
use Rattle.cargo_features.specs.declared.claims.Claim.{Claim}
use Rattle.cargo_features.specs.declared.claims.Claim.TheVariants as claim
use Rattle.cargo_features.specs.declared.packages.Dependency.{Dependency}
use Rattle.cargo_features.specs.declared.packages.Package.{Package}
use Rattle.cargo_features.specs.declared.resolved.Resolved.{Resolved}

-- true if a claim holds on the target k, by the result
abbrev pub holds_in : Resolved → Claim → ℕ → Bool
holds_in resolved c k = has resolved.packages.items resolved.found c k

-- true if, by the result, the package is used on a side, and its feature is on there
abbrev pub is_built_with : Resolved → ℕ → Side → ℕ → ℕ → Bool
is_built_with resolved p from f k =
    holds_in resolved (claim.Used p from) k
    && holds_in resolved (claim.Feature p (feature_side resolved.build from) f) k

-- it is the result for these packages and this build, and its numbers are those of the packages
pub record IsResolved (units : List Package) (built : BuildOptions) (resolved : Resolved) : Type 0 where
  pub packages : resolved.packages.items ≡ units
  pub build : resolved.build ≡ built
  pub numbers : AreNumbers resolved.packages.items resolved.found.numbers

-- true if, by the result, the package p is used on the side `from`, and there its dependency d, at the index i, is on,
-- if it is optional, and has a true condition
abbrev pub is_using : Resolved → ℕ → Side → ℕ → Dependency → ℕ → Bool
is_using resolved p from i d k =
    holds_in resolved (claim.Used p from) k
    && (holds_in resolved
    (required_claim (record { index = p; side = feature_side resolved.build from }) i d (claim.Used p from)) k
    && holds_at resolved.build.host k (destination resolved.packages.items from d).condition)

-- by the result, the package p uses its dependency at the index i, and that leads to a package built for the side `to`
pub record IsUsing (resolved : Resolved) (p i : ℕ) (to : Side) (k : ℕ) : Type 0 where
  pub unit : Package
  pub there : slice_get resolved.packages.items p ≡ Some unit
  pub dependency : Dependency
  pub declared : slice_get unit.dependencies.items i ≡ Some dependency
  pub followed : IsTrue (is_followed resolved.build.kinds unit.is_root dependency.kind)
  pub from : Side
  pub leads : (destination resolved.packages.items from dependency).side ≡ to
  pub uses : IsTrue (is_using resolved p from i dependency k)

-- on one side or the other
abbrev pub IsUsingAny : Resolved → ℕ → ℕ → ℕ → Type 0
IsUsingAny resolved p i k = (to : Side) × IsUsing resolved p i to k
