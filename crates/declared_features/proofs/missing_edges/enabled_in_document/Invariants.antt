use Rattle.std.proofs.Common.{take}
use Rattle.serde_json.specs.View.{view}
use Rattle.declared_features.specs.NameSets.{AddsNames}
use Rattle.declared_features.specs.MissingEdges.{IsTurnedOnIn}
use Rattle.declared_features.proofs.missing_edges.enabled_in_document.Given as goal

abbrev pub invariant-features : goal.invariant-features
invariant-features l =
    AddsNames l.initial.names l.names (IsTurnedOnIn (view l.document) l.node (take l.i l.manifest.features.items))
