use Rattle.known_targets.proofs.Places.{are_equal}
use Rattle.known_targets.proofs.target_set.TargetSetPartialEq.eq.Goals as goal

pub returns : goal.returns
returns c = are_equal c.args.self.now c.args.other.now c.equals.result c.equals.ensures.yes c.equals.ensures.no
