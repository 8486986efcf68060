-- The claims about packages that hold on each target.
use Rattle.std.specs.Prelude.{◌≡◌, ◌⊎◌, ℕ, Bool, true, IsTrue, List, [], map, length, nat_lt, Contains}
use Rattle.std.specs.List.{slice_index_or}
use Rattle.package_graphs.specs.declared.sides.Side.TheVariants.{Target, Host}
use Rattle.cargo_features.specs.Deriving.{Follows}
use Rattle.cargo_features.specs.Claims.{holds_at}
use Rattle.cargo_features.specs.Steps.{all_steps}
use Rattle.cargo_features.specs.declared.build.BuildOptions.{BuildOptions}
use Rattle.cargo_features.specs.declared.claims.Claim.{Claim}
use Rattle.cargo_features.specs.declared.claims.Claim.TheVariants as claim
use Rattle.cargo_features.specs.declared.claims.Step.{Step}
use Rattle.cargo_features.specs.declared.packages.Package.{Package}

abbrev pub feature_count : List Package → ℕ → ℕ
feature_count packages p = slice_index_or (map (λ p. length p.features.items) packages) p 0

abbrev pub dependency_count : List Package → ℕ → ℕ
dependency_count packages p = slice_index_or (map (λ p. length p.dependencies.items) packages) p 0

-- true if a claim is about a package, feature or dependency that exists
abbrev pub is_known : List Package → Claim → Bool
is_known packages claim.Requested = true
is_known packages (claim.Active p from) = nat_lt p (length packages)
is_known packages (claim.Used p from) = nat_lt p (length packages)
is_known packages (claim.Feature p from f) = nat_lt f (feature_count packages p)
is_known packages (claim.Dependency p from d) = nat_lt d (dependency_count packages p)

-- a step leads from two claims to a third, which is known, and its condition is true on the target k
pub record LeadsTo (build : BuildOptions) (packages : List Package) (k : ℕ) (a b c : Claim) : Type 0 where
  pub step : Step
  pub is : Contains (all_steps build packages) step
  pub first : step.first ≡ a
  pub second : step.second ≡ b
  pub to : step.to ≡ c
  pub known : is_known packages c ≡ true
  pub holds : holds_at build.host k step.condition ≡ true

-- the claim holds on the target k: the build is requested, and steps lead from that to it
abbrev pub Holds : BuildOptions → List Package → ℕ → Claim → Type 0
Holds build packages k c = Follows (λ c. c ≡ claim.Requested) (λ a b c. LeadsTo build packages k a b c) c

-- the build uses the package for the target k, on either side
abbrev pub IsUsed : BuildOptions → List Package → ℕ → ℕ → Type 0
IsUsed build packages k p = Holds build packages k (claim.Used p Target) ⊎ Holds build packages k (claim.Used p Host)
