use Rattle.package_graphs.proofs.Shipped.{macro_there}
use Rattle.package_graphs.proofs.laws.macros_are_for_the_host.Goals as goal

pub returns : goal.returns
returns c packages kinds host k n is there = macro_there packages kinds host k n there is
