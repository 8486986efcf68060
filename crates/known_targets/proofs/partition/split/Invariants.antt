use Rattle.known_targets.specs.Parts.{ArePartsSoFar}
use Rattle.known_targets.proofs.partition.split.Given as goal

abbrev pub invariant-classes : goal.invariant-classes
invariant-classes l = ArePartsSoFar l.set l.class-items l.parts.items l.class-index
