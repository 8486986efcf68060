use Rattle.std.proofs.Common.{◌≡◌, take}
use Rattle.package_graphs.specs.Graphs.{edge_lists}
use Rattle.package_graphs.specs.Inside.Numbered.{numbered}
use Rattle.package_graphs.proofs.two_sided_graph.TraversalQuery.graph.Given as goal

abbrev pub invariant-packages : goal.invariant-packages
invariant-packages l = edge_lists l.graph ≡ numbered l.self l.packages (take l.unit-index l.packages)
