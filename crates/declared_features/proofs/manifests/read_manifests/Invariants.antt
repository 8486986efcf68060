use Rattle.std.proofs.Common.{map, take}
use Rattle.serde_json.specs.View.{view}
use Rattle.cargo_metadata.specs.Rows.{AreRows}
use Rattle.declared_features.specs.Documents.{IsManifest}
use Rattle.declared_features.proofs.manifests.read_manifests.Given as goal

abbrev pub invariant-packages : goal.invariant-packages
invariant-packages l = AreRows IsManifest (map view (take l.i l.items)) l.manifests.items
