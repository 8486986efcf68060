use Rattle.std.proofs.Common.{take}
use Rattle.package_graphs.specs.Paths.{AreShortestOf}
use Rattle.package_graphs.proofs.paths.shortest_paths.Given as goal

abbrev pub invariant-packages : goal.invariant-packages
invariant-packages l = AreShortestOf l.packages l.query (take l.index-index l.to) l.paths.items
