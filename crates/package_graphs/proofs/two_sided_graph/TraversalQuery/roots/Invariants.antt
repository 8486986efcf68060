use Rattle.package_graphs.specs.Inside.Numbered.{AreFirst}
use Rattle.package_graphs.proofs.two_sided_graph.TraversalQuery.roots.Given as goal

abbrev pub invariant-packages : goal.invariant-packages
invariant-packages l = AreFirst l.self l.packages l.i l.roots.items
