use Rattle.std.proofs.Common.{◌≤◌, length, inl, arith}
use Rattle.known_targets.specs.Sets.{left}
use Rattle.known_targets.specs.declared.table.TheConstants.{COUNT}
use Rattle.known_targets.proofs.Places.{few}
use Rattle.known_targets.proofs.target_set.TargetSet.len.Goals as goal

pub count-requires-clause-fits : goal.count-requires-clause-fits
count-requires-clause-fits c =
    let bound : length (left c.iter.result) ≤ COUNT = few c.iter.result.set c.iter.result.next in
    inl (omega (arith, bound))
