use Rattle.std.proofs.Common.{◌≡◌, ◌++◌, take}
use Rattle.cargo_features.specs.Steps.{at_each, feature_steps}
use Rattle.cargo_features.proofs.build.BuildOptions.features.Given as goal

abbrev pub invariant-features : goal.invariant-features
invariant-features l =
    l.steps.items ≡ l.fn.steps.items
    ++ at_each 0 (λ f members. feature_steps l.self l.unit.packages.now l.unit.at l.unit.package.now f members.items)
    (take l.i l.unit.package.now.features.items)
