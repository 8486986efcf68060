use Rattle.std.proofs.Common.{◌≡◌}
use Rattle.std.specs.Prelude.{◌-◌}
use Rattle.known_targets.specs.Sets.{left}
use Rattle.known_targets.specs.declared.table.TheConstants.{COUNT}
use Rattle.known_targets.proofs.members.TargetsIterator.next.Given as goal

abbrev pub invariant-places : goal.invariant-places
invariant-places l = left l.self ≡ left l.fn.self

abbrev pub decreases-places : goal.decreases-places
decreases-places l = COUNT - l.self.next
