use Rattle.std.proofs.Common.{take}
use Rattle.known_targets.specs.Classes.{AreClasses}
use Rattle.known_targets.proofs.partition.partition_targets.Given as goal

abbrev pub invariant-sets : goal.invariant-sets
invariant-sets l = AreClasses (take l.set-index l.sets) l.classes.items
