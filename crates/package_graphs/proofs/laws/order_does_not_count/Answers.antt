use Rattle.package_graphs.proofs.Reached.{more_edges}
use Rattle.package_graphs.proofs.laws.order_does_not_count.Goals as goal

pub returns : goal.returns
returns c graph other roots k n part whole =
    (more_edges graph other roots k n part, more_edges other graph roots k n whole)
