use Rattle.std.proofs.Common.{◌≡◌, ◌++◌, take}
use Rattle.std.specs.Prelude.{flat_map}
use Rattle.cargo_features.specs.Steps.{member_steps}
use Rattle.cargo_features.proofs.build.BuildOptions.feature.Given as goal

abbrev pub invariant-members : goal.invariant-members
invariant-members l =
    l.steps.items ≡ l.fn.steps.items
    ++ flat_map (member_steps l.self l.unit.packages.now l.unit.at l.unit.package.now l.from)
    (take l.member-index l.members)
