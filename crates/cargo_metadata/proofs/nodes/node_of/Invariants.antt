use Rattle.std.proofs.Common.{map, take}
use Rattle.serde_json.specs.View.{view}
use Rattle.cargo_metadata.specs.Rows.{AreRows}
use Rattle.cargo_metadata.specs.Nodes.{IsDependency}
use Rattle.cargo_metadata.proofs.nodes.node_of.Given as goal

abbrev pub invariant-dependencies : goal.invariant-dependencies
invariant-dependencies l = AreRows IsDependency (map view (take l.i l.items)) l.dependencies.items
