use Rattle.known_targets.proofs.Taken.{allowed, left_open}
use Rattle.known_targets.proofs.laws.partial_target_is_tight.Goals as goal

pub returns-clause-allowed : goal.returns-clause-allowed
returns-clause-allowed c = allowed

pub returns-clause-open : goal.returns-clause-open
returns-clause-open c = left_open
