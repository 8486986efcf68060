use Rattle.std.proofs.Common.{◌≡◌, ◌++◌, take}
use Rattle.cargo_features.specs.Steps.{at_each, active_steps, used_steps}
use Rattle.cargo_features.proofs.build.BuildOptions.dependencies.Given as goal

abbrev pub invariant-dependencies : goal.invariant-dependencies
invariant-dependencies l =
    l.steps.items ≡ l.fn.steps.items
    ++ at_each 0 (λ i d. active_steps l.self l.unit.packages.now l.unit.at l.unit.package.now i d ++ used_steps l.self
    l.unit.packages.now l.unit.at l.unit.package.now i d)
    (take l.i l.unit.package.now.dependencies.items)
