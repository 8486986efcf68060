use Rattle.package_graphs.proofs.Reached.{more_roots}
use Rattle.package_graphs.proofs.laws.more_roots_keep_targets.Goals as goal

pub returns : goal.returns
returns c = more_roots
