use Rattle.std.proofs.Common.{map, take}
use Rattle.serde_json.specs.View.{view}
use Rattle.cargo_metadata.specs.Rows.{AreRows}
use Rattle.cargo_metadata.specs.Documents.{IsMember}
use Rattle.cargo_metadata.proofs.metadata.members_at.Given as goal

abbrev pub invariant-members : goal.invariant-members
invariant-members l = AreRows IsMember (map view (take l.i l.items)) l.members.items
