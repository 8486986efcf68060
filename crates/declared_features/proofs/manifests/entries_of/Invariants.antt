use Rattle.std.proofs.Common.{◌≡◌, map, take, drop}
use Rattle.serde_json.specs.View.{view}
use Rattle.cargo_metadata.specs.Fields.{are_texts}
use Rattle.cargo_metadata.specs.Rows.{AreRows}
use Rattle.declared_features.specs.Documents.{IsEntryOf}
use Rattle.declared_features.proofs.manifests.entries_of.Given as goal

-- whether all items are texts depends on those that are left
abbrev pub invariant-items : goal.invariant-items
invariant-items l =
    AreRows IsEntryOf (map view (take l.i l.items.items)) l.entries.items
    × (are_texts (map view (drop l.i l.items.items)) ≡ are_texts (map view l.items.items))
