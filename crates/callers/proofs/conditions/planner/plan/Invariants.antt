-- The conditions so far have their truths.
use Rattle.std.proofs.Common.{◌≡◌, map, take}
use Rattle.cargo_platform.specs.Trees.{value_of, condition_of}
use Rattle.cargo_platform.specs.Facts.{fact_set, truth_of_condition}
use Rattle.callers.proofs.conditions.planner.plan.Given as goal

abbrev pub invariant-loop-condition : goal.invariant-loop-condition
invariant-loop-condition l =
    l.plan.items ≡ map (λ p. truth_of_condition l.target (fact_set (map value_of l.facts)) (condition_of p))
    (take l.condition-index l.conditions)
