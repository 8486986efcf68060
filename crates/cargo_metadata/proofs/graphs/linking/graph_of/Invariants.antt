use Rattle.cargo_metadata.specs.Inside.Finding.{ArePackagesSoFar}
use Rattle.cargo_metadata.proofs.graphs.linking.graph_of.Given as goal

abbrev pub invariant-nodes : goal.invariant-nodes
invariant-nodes l = ArePackagesSoFar l.metadata l.described.items l.packages.items l.i
