-- Where a dependency leads, and which dependencies the feature resolver considers.
use Rattle.std.specs.Prelude.{ℕ, Bool, true, false, ◌&&◌, ◌||◌, cond, List, map}
use Rattle.std.specs.List.{slice_index_or}
use Rattle.known_targets.specs.declared.target_set.TargetSet.{TargetSet}
use Rattle.package_graphs.specs.Packages.{is_of_host, side}
use Rattle.package_graphs.specs.declared.packages.Kind.{Kind}
use Rattle.package_graphs.specs.declared.packages.Kind.TheVariants as kinds
use Rattle.package_graphs.specs.declared.sides.Side.{Side}
use Rattle.package_graphs.specs.declared.sides.Side.TheVariants.{Target, Host}
use Rattle.cargo_features.specs.declared.build.BuildOptions.{BuildOptions}
use Rattle.cargo_features.specs.declared.build.Destination.{Destination}
use Rattle.cargo_features.specs.declared.claims.StepTargets.{StepTargets}
use Rattle.cargo_features.specs.declared.claims.StepTargets.TheVariants.{Always, OfTarget, OfHost}
use Rattle.cargo_features.specs.declared.packages.Dependency.{Dependency}
use Rattle.cargo_features.specs.declared.packages.Package.{Package}

abbrev pub is_macro : List Package → ℕ → Bool
is_macro packages p = slice_index_or (map (λ p. p.is_macro) packages) p false

-- the conditions of what a build script and what the host needs are decided for the host
abbrev pub condition : Bool → TargetSet → StepTargets
condition true set = OfHost set
condition false set = OfTarget set

-- what is built for the host leads to what is built for it too, as do build-dependencies; a procedural macro is built
-- for the host
abbrev pub destination : List Package → Side → Dependency → Destination
destination packages from d = record {
  side = side (is_of_host from d.kind || is_macro packages d.to);
  condition = condition (is_of_host from d.kind) d.holds;
}

-- if features are not kept apart by side, they are those of the target's side
abbrev pub feature_side : BuildOptions → Side → Side
feature_side build from = cond build.by_side from Target

-- and if they are not kept apart by target, every condition counts as true
abbrev pub feature_destination : BuildOptions → List Package → Side → Dependency → Destination
feature_destination build packages from d = record {
  side = feature_side build (destination packages from d).side;
  condition = cond build.by_target (destination packages from d).condition Always;
}

-- dev-dependencies are those of roots only
abbrev pub counts_kind : BuildOptions → Bool → Kind → Bool
counts_kind build is_root kinds.Normal = true
counts_kind build is_root kinds.Build = true
counts_kind build is_root kinds.Dev = build.with_dev && is_root

abbrev pub is_counted : BuildOptions → Package → Dependency → Bool
is_counted build unit d = counts_kind build unit.is_root d.kind

-- the resolver starts with roots; with a root that is a procedural macro, on both sides
abbrev pub begins_on : BuildOptions → Side → Package → Bool
begins_on build Target unit = unit.is_root
begins_on build Host unit = unit.is_root && (build.by_side && unit.is_macro)
