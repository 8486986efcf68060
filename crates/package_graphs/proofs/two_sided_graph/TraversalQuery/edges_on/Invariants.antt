use Rattle.std.proofs.Common.{◌≡◌, take}
use Rattle.std.specs.Prelude.{flat_map}
use Rattle.package_graphs.specs.Inside.Numbered.{edges_of}
use Rattle.package_graphs.proofs.two_sided_graph.TraversalQuery.edges_on.Given as goal

abbrev pub invariant-dependencies : goal.invariant-dependencies
invariant-dependencies l =
    l.edges.items ≡ flat_map (edges_of l.self l.packages l.unit.is_root l.from)
    (take l.dependency-index l.unit.dependencies.items)
