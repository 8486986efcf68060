use Rattle.std.proofs.Common.{take}
use Rattle.cyclonedx.specs.Relations.{AreRelations}
use Rattle.cyclonedx.proofs.relations.relations_of.Given as goal

abbrev pub invariant-nodes : goal.invariant-nodes
invariant-nodes l = AreRelations l.nodes (take l.i l.nodes) l.relations.items
