use Rattle.std.proofs.Common.{◌≡◌, drop, map}
use Rattle.std.specs.FinSet.{contains}
use Rattle.cargo_platform.specs.Trees.{value_of}
use Rattle.cargo_platform.specs.Facts.{pair_of}
use Rattle.callers.specs.Targets.{sets_of, agreed}
use Rattle.callers.proofs.partial.targets.OneOfKnowledge.tells.Given as goal

-- the answer depends on the targets that are left
abbrev pub invariant-loop-facts : goal.invariant-loop-facts
invariant-loop-facts l =
    agreed l.first (map (λ s. contains s (pair_of (value_of l.c))) (sets_of (drop l.facts-index l.self.others.now)))
    ≡ agreed l.first (map (λ s. contains s (pair_of (value_of l.c))) (sets_of l.self.others.now))
