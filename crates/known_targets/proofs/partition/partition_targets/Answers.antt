use Rattle.known_targets.proofs.Parting.{classes_more}
use Rattle.known_targets.proofs.partition.partition_targets.Goals as goal

pub sets-preserved : goal.sets-preserved
sets-preserved c =
    classes_more c.args.sets.now c.sets.set-index _ c.sets.classes.items c.in_ok-classes.classes.items c.sets-test.true
    c.sets.invariant c.in_ok-classes.ensures
