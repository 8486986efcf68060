use Rattle.std.proofs.Common.{map, take}
use Rattle.serde_json.specs.View.{view}
use Rattle.cargo_metadata.specs.Rows.{AreRows}
use Rattle.cargo_metadata.specs.Nodes.{IsNode}
use Rattle.cargo_metadata.proofs.metadata.nodes_at.Given as goal

abbrev pub invariant-nodes : goal.invariant-nodes
invariant-nodes l = AreRows IsNode (map view (take l.i l.items)) l.nodes.items
