-- Claims as numbers: those about a package are consecutive, two for each fact.
use Rattle.std.specs.Prelude.{◌≡◌, ◌<◌, ℕ, ◌+◌, ◌*◌, Bool, true, cond, List, length, take, sum_by, slice_index}
use Rattle.std.specs.List.{slice_index_or}
use Rattle.known_targets.specs.Sets.{is_member}
use Rattle.known_targets.specs.declared.table.TheConstants.{COUNT}
use Rattle.known_targets.specs.declared.known.KnownTarget.{KnownTarget}
use Rattle.package_graphs.specs.Packages.{node_of}
use Rattle.cargo_features.specs.declared.rules.Rule.{Rule}
use Rattle.cargo_features.specs.Claims.{holds_at}
use Rattle.cargo_features.specs.Holding.{feature_count, is_known}
use Rattle.cargo_features.specs.declared.claims.Claim.{Claim}
use Rattle.cargo_features.specs.declared.claims.Claim.TheVariants as claim
use Rattle.cargo_features.specs.declared.claims.Step.{Step}
use Rattle.cargo_features.specs.declared.numbers.Numbers.{Numbers}
use Rattle.cargo_features.specs.declared.packages.Package.{Package}

abbrev pub width : Package → ℕ
width unit = 2 * (2 + (length unit.features.items + length unit.dependencies.items))

abbrev pub first_of : List Package → ℕ → ℕ
first_of packages p = 1 + sum_by width (take p packages)

abbrev pub count_of : List Package → ℕ
count_of packages = 1 + sum_by width packages

abbrev pub place_of : List Package → Claim → ℕ
place_of packages claim.Requested = 0
place_of packages (claim.Active p from) = first_of packages p + node_of 0 from
place_of packages (claim.Used p from) = first_of packages p + node_of 1 from
place_of packages (claim.Feature p from f) = first_of packages p + node_of (f + 2) from
place_of packages (claim.Dependency p from d) =
    first_of packages p + node_of ((feature_count packages p + d) + 2) from

-- the number of a claim, or a number past the end if the claim is not known
abbrev pub number : List Package → Claim → ℕ
number packages c = cond (is_known packages c) (place_of packages c) (count_of packages)

pub record AreNumbers (packages : List Package) (numbers : Numbers) : Type 0 where
  pub count : numbers.count ≡ count_of packages
  pub many : length numbers.firsts.items ≡ length packages
  pub firsts : (p : ℕ) → p < length packages → slice_index numbers.firsts.items p ≡ first_of packages p

-- a step with numbers in place of claims
pub record IsNumbered (packages : List Package) (host : KnownTarget) (step : Step) (rule : Rule) : Type 0 where
  pub first : rule.first ≡ number packages step.first
  pub second : rule.second ≡ number packages step.second
  pub to : rule.to ≡ number packages step.to
  pub holds : (k : ℕ) → k < COUNT → is_member rule.holds k ≡ holds_at host k step.condition

-- the steps in order
pub record AreNumbered (packages : List Package) (host : KnownTarget) (steps : List Step) (rules : List Rule)
    : Type 0 where
  pub count : length rules ≡ length steps
  pub each : (i : ℕ) → i < length steps → (s : Step) (r : Rule)
      → IsNumbered packages host (slice_index_or steps i s) (slice_index_or rules i r)
