-- Cargo's rules: the steps from claims to claims. They are those of the pages "Features" and "Dependency Resolution" of
-- the Cargo book, as its feature resolver implements them (`core/resolver/features.rs`), and then those of `cargo
-- tree`.
use Rattle.std.specs.Prelude.{ℕ, zero, suc, ◌+◌, Bool, true, false, not, ◌&&◌, cond, List, [], ◌∷◌, ◌++◌, Option}
use Rattle.std.specs.Prelude.{Some, None, flat_map, slice_get}
use Rattle.package_graphs.specs.Kinds.{is_followed}
use Rattle.package_graphs.specs.declared.sides.Side.{Side}
use Rattle.package_graphs.specs.declared.sides.Side.TheVariants.{Target, Host}
use Rattle.cargo_features.specs.Destinations.{destination, feature_destination, feature_side, is_counted, begins_on}
use Rattle.cargo_features.specs.declared.build.BuildOptions.{BuildOptions}
use Rattle.cargo_features.specs.declared.build.Destination.{Destination}
use Rattle.cargo_features.specs.declared.claims.Claim.{Claim}
use Rattle.cargo_features.specs.declared.claims.Claim.TheVariants as claim
use Rattle.cargo_features.specs.declared.claims.StepTargets.{StepTargets}
use Rattle.cargo_features.specs.declared.claims.StepTargets.TheVariants.{Always}
use Rattle.cargo_features.specs.declared.claims.PackageOnSide.{PackageOnSide}
use Rattle.cargo_features.specs.declared.claims.Step.{Step}
use Rattle.cargo_features.specs.declared.packages.Dependency.{Dependency}
use Rattle.cargo_features.specs.declared.packages.FeatureValue.{FeatureValue}
use Rattle.cargo_features.specs.declared.packages.FeatureValue.TheVariants as listed
use Rattle.cargo_features.specs.declared.packages.Package.{Package}

-- a step from one claim
abbrev pub one : Claim → Claim → StepTargets → Step
one first to condition = record { first = first; second = first; to = to; condition = condition }

abbrev pub both : Claim → Claim → Claim → StepTargets → Step
both first second to condition = record { first = first; second = second; to = to; condition = condition }

-- the step, if `is_there`
abbrev pub when : Bool → Step → List Step
when is_there step = cond is_there (step ∷ []) []

-- the steps of each element of a list, with its index, counted from k on
abbrev pub at_each : {X : Type 0} → ℕ → (ℕ → X → List Step) → List X → List Step
at_each k f [] = []
at_each k f (x ∷ xs) = f k x ++ at_each (k + 1) f xs

-- an optional dependency is followed if it is on, and another one wherever what follows it is
abbrev pub required_claim : PackageOnSide → ℕ → Dependency → Claim → Claim
required_claim at i d otherwise = cond d.is_optional (claim.Dependency at.index at.side i) otherwise

-- to a feature of a package
abbrev pub to_feature : Bool → Claim → PackageOnSide → StepTargets → ℕ → List Step
to_feature is_there first on condition f =
    when is_there (one first (claim.Feature on.index on.side f) condition)

-- ---- a root

abbrev pub is_first_side : Side → Package → Bool
is_first_side Target unit = unit.is_root && not unit.is_macro
is_first_side Host unit = unit.is_root && unit.is_macro

-- it is active, with the features that are requested of it, and it is used
abbrev pub root_steps : BuildOptions → PackageOnSide → Package → List Step
root_steps build at unit =
    when (begins_on build at.side unit) (one claim.Requested (claim.Active at.index at.side) Always)
    ++ flat_map (to_feature (begins_on build at.side unit) claim.Requested at Always) unit.requested.items
    ++ when (is_first_side at.side unit) (one claim.Requested (claim.Used at.index at.side) Always)

-- ---- a dependency

-- where it leads for the feature resolver
abbrev pub led_to : BuildOptions → List Package → PackageOnSide → Dependency → PackageOnSide
led_to build packages at d = record { index = d.to; side = (feature_destination build packages at.side d).side }

abbrev pub led_where : BuildOptions → List Package → PackageOnSide → Dependency → StepTargets
led_where build packages at d = (feature_destination build packages at.side d).condition

-- it makes its package active, with the features that it requests
abbrev pub active_steps : BuildOptions → List Package → PackageOnSide → Package → ℕ → Dependency → List Step
active_steps build packages at unit i d =
    when (is_counted build unit d)
    (one (required_claim at i d (claim.Active at.index at.side))
    (claim.Active (led_to build packages at d).index (led_to build packages at d).side)
    (led_where build packages at d))
    ++ flat_map (to_feature (is_counted build unit d) (required_claim at i d (claim.Active at.index at.side))
    (led_to build packages at d) (led_where build packages at d)) d.features.items

-- its package is used; whether the dependency is on is decided on the side of the features
abbrev pub used_steps : BuildOptions → List Package → PackageOnSide → Package → ℕ → Dependency → List Step
used_steps build packages at unit i d =
    when (is_followed build.kinds unit.is_root d.kind)
    (both (claim.Used at.index at.side)
    (required_claim (record { index = at.index; side = feature_side build at.side }) i d (claim.Used at.index at.side))
    (claim.Used d.to (destination packages at.side d).side)
    (destination packages at.side d).condition)

abbrev pub dependency_steps : BuildOptions → List Package → PackageOnSide → Package → List Step
dependency_steps build packages at unit =
    at_each 0 (λ i d. active_steps build packages at unit i d ++ used_steps build packages at unit i d)
    unit.dependencies.items

-- ---- the list of a feature

-- an optional dependency can be turned on
abbrev pub turns_on : BuildOptions → Package → Dependency → Bool
turns_on build unit d = is_counted build unit d && d.is_optional

-- the feature of the dependency's name, if there is one
abbrev pub named_steps : Bool → PackageOnSide → Claim → StepTargets → Option ℕ → List Step
named_steps is_on at from condition None = []
named_steps is_on at from condition (Some f) = to_feature is_on from at condition f

-- `d/g`: the feature g of the package of d and, if d is optional, d itself and the feature of its name
abbrev pub strong_at : BuildOptions → List Package → PackageOnSide → Package → Claim → ℕ → ℕ → Option Dependency
    → List Step
strong_at build packages at unit from i g None = []
strong_at build packages at unit from i g (Some d) =
    to_feature (is_counted build unit d) from (led_to build packages at d) (led_where build packages at d) g
    ++ when (turns_on build unit d)
    (one from (claim.Dependency at.index at.side i) (led_where build packages at d))
    ++ named_steps (turns_on build unit d) at from (led_where build packages at d) d.named

abbrev pub strong_steps : BuildOptions → List Package → PackageOnSide → Package → Claim → ℕ → ℕ → List Step
strong_steps build packages at unit from i g =
    strong_at build packages at unit from i g (slice_get unit.dependencies.items i)

-- `d?/g`: the feature g of the package of d, which has to be on if it is optional
abbrev pub weak_at : BuildOptions → List Package → PackageOnSide → Package → Claim → ℕ → ℕ → Option Dependency
    → List Step
weak_at build packages at unit from i g None = []
weak_at build packages at unit from i g (Some d) =
    when (is_counted build unit d)
    (both from (required_claim at i d from)
    (claim.Feature (led_to build packages at d).index (led_to build packages at d).side g)
    (led_where build packages at d))

abbrev pub weak_steps : BuildOptions → List Package → PackageOnSide → Package → Claim → ℕ → ℕ → List Step
weak_steps build packages at unit from i g =
    weak_at build packages at unit from i g (slice_get unit.dependencies.items i)

-- a feature, `dep:d`, `d/g`, or `d?/g`
abbrev pub member_steps : BuildOptions → List Package → PackageOnSide → Package → Claim → FeatureValue → List Step
member_steps build packages at unit from (listed.Feature f) =
    when true (one from (claim.Feature at.index at.side f) Always)
member_steps build packages at unit from (listed.Dependency i) =
    when true (one from (claim.Dependency at.index at.side i) Always)
member_steps build packages at unit from (listed.Strong i g) = strong_steps build packages at unit from i g
member_steps build packages at unit from (listed.Weak i g) = weak_steps build packages at unit from i g

-- a feature turns on what it lists
abbrev pub feature_steps : BuildOptions → List Package → PackageOnSide → Package → ℕ → List FeatureValue → List Step
feature_steps build packages at unit f members =
    flat_map (member_steps build packages at unit (claim.Feature at.index at.side f)) members

abbrev pub all_features : BuildOptions → List Package → PackageOnSide → Package → List Step
all_features build packages at unit =
    at_each 0 (λ f members. feature_steps build packages at unit f members.items) unit.features.items

-- ---- a package on a side, and all of them

abbrev pub steps_of : BuildOptions → List Package → PackageOnSide → Package → List Step
steps_of build packages at unit =
    root_steps build at unit ++ dependency_steps build packages at unit ++ all_features build packages at unit

abbrev pub steps_on_both : BuildOptions → List Package → ℕ → Package → List Step
steps_on_both build packages p unit =
    steps_of build packages (record { index = p; side = Target }) unit
    ++ steps_of build packages (record { index = p; side = Host }) unit

abbrev pub all_steps : BuildOptions → List Package → List Step
all_steps build packages = at_each 0 (λ p unit. steps_on_both build packages p unit) packages
