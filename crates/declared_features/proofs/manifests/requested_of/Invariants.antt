use Rattle.std.proofs.Common.{map, take}
use Rattle.serde_json.specs.View.{view}
use Rattle.cargo_metadata.specs.Rows.{AreRows}
use Rattle.declared_features.specs.Documents.{IsText}
use Rattle.declared_features.proofs.manifests.requested_of.Given as goal

abbrev pub invariant-features : goal.invariant-features
invariant-features l = AreRows IsText (map view (take l.i l.items)) l.features.items
