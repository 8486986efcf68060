use Rattle.std.proofs.Common.{map, take}
use Rattle.serde_json.specs.View.{view}
use Rattle.cargo_metadata.specs.Rows.{AreRows}
use Rattle.declared_features.specs.Documents.{IsDeclared}
use Rattle.declared_features.proofs.manifests.dependencies_of.Given as goal

abbrev pub invariant-dependencies : goal.invariant-dependencies
invariant-dependencies l = AreRows IsDeclared (map view (take l.i l.items)) l.dependencies.items
