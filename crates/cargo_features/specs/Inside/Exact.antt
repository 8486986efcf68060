-- Sets by the numbers of claims.
use Rattle.std.specs.Prelude.{◌≡◌, ◌<◌, ◌↔◌, ◌||◌, ℕ, Bool, true, IsTrue, List}
use Rattle.known_targets.specs.declared.table.TheConstants.{COUNT}
use Rattle.package_graphs.specs.Graphs.{is_in}
use Rattle.package_graphs.specs.declared.sides.Side.TheVariants.{Target, Host}
use Rattle.cargo_features.specs.Holding.{is_known, Holds}
use Rattle.cargo_features.specs.Inside.Numbered.{number, AreNumbers}
use Rattle.cargo_features.specs.declared.build.BuildOptions.{BuildOptions}
use Rattle.cargo_features.specs.declared.claims.Claim.{Claim}
use Rattle.cargo_features.specs.declared.claims.Claim.TheVariants as claim
use Rattle.cargo_features.specs.declared.packages.Package.{Package}
use Rattle.cargo_features.specs.declared.resolved.TargetsByClaim.{TargetsByClaim}

-- true if the sets have the target k at the number of a claim
abbrev pub has : List Package → TargetsByClaim → Claim → ℕ → Bool
has packages found c k = is_in found.sets.items (number packages c) k

abbrev pub is_used : List Package → TargetsByClaim → ℕ → ℕ → Bool
is_used packages found p k = has packages found (claim.Used p Target) k || has packages found (claim.Used p Host) k

-- the sets contain, for each claim, the targets on which it holds
pub record IsExact (build : BuildOptions) (packages : List Package) (found : TargetsByClaim) : Type 0 where
  pub numbers : AreNumbers packages found.numbers
  pub exact : (c : Claim) (k : ℕ) → is_known packages c ≡ true → k < COUNT
      → IsTrue (has packages found c k) ↔ Holds build packages k c
