use Rattle.std.proofs.Common.{ℕ, List}
use Rattle.cargo_metadata.specs.Indexes.{AreFound}
use Rattle.cargo_metadata.specs.Inside.Adding.{AreEdgesSoFar}
use Rattle.cargo_metadata.proofs.graphs.edges.edges_of.Given as goal

abbrev pub invariant-dependencies : goal.invariant-dependencies
invariant-dependencies l =
    (ids : List (List ℕ)) → AreFound l.nodes ids → AreEdgesSoFar ids l.node.dependencies.items l.j l.edges.items
