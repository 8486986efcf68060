use Rattle.package_graphs.proofs.Reached.{from_either, to_both}
use Rattle.package_graphs.proofs.laws.roots_add_up.Goals as goal

pub returns : goal.returns
returns c graph roots others k n = (from_either graph roots others k n, to_both graph roots others k n)
