use Rattle.std.proofs.Common.{map, take}
use Rattle.serde_json.specs.View.{view}
use Rattle.cargo_metadata.specs.Rows.{AreRows}
use Rattle.cargo_metadata.specs.Packages.{IsPackage}
use Rattle.cargo_metadata.proofs.metadata.packages_at.Given as goal

abbrev pub invariant-packages : goal.invariant-packages
invariant-packages l = AreRows IsPackage (map view (take l.i l.items)) l.packages.items
