use Rattle.cargo_metadata.specs.Inside.Finding.{AreNodesSoFar}
use Rattle.cargo_metadata.proofs.graphs.linking.node_indexes.Given as goal

abbrev pub invariant-nodes : goal.invariant-nodes
invariant-nodes l = AreNodesSoFar l.metadata l.indexes l.described.items l.i
