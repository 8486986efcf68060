use Rattle.std.proofs.Common.{take}
use Rattle.cargo_features.specs.Steps.{at_each, steps_on_both}
use Rattle.cargo_features.specs.Inside.Numbered.{AreNumbered}
use Rattle.cargo_features.proofs.resolved.all_rules.Given as goal

abbrev pub invariant-packages : goal.invariant-packages
invariant-packages l = AreNumbered l.packages l.build.host
    (at_each 0 (λ p unit. steps_on_both l.build l.packages p unit) (take l.i l.packages)) l.rules.items
