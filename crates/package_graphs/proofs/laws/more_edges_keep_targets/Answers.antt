use Rattle.package_graphs.proofs.Reached.{more_edges}
use Rattle.package_graphs.proofs.laws.more_edges_keep_targets.Goals as goal

pub returns : goal.returns
returns c = more_edges
