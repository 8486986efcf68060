use Rattle.std.proofs.Common.{◌++◌, List, take}
use Rattle.cargo_features.specs.Inside.Numbered.{AreNumbered}
use Rattle.cargo_features.specs.declared.claims.Step.{Step}
use Rattle.cargo_features.proofs.resolved.add_rules.Given as goal

abbrev pub invariant-steps : goal.invariant-steps
invariant-steps l = (before : List Step) → AreNumbered l.packages l.build.host before l.fn.rules.items
    → AreNumbered l.packages l.build.host (before ++ take l.step-index l.steps) l.rules.items
