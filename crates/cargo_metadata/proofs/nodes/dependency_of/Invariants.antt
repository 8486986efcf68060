use Rattle.std.proofs.Common.{map, take}
use Rattle.serde_json.specs.View.{view}
use Rattle.cargo_metadata.specs.Rows.{AreRows}
use Rattle.cargo_metadata.specs.Nodes.{IsKindRow}
use Rattle.cargo_metadata.proofs.nodes.dependency_of.Given as goal

abbrev pub invariant-kinds : goal.invariant-kinds
invariant-kinds l = AreRows IsKindRow (map view (take l.i l.items)) l.kinds.items
