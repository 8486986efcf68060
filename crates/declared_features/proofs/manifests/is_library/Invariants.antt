use Rattle.std.proofs.Common.{◌≡◌, map, drop}
use Rattle.std.specs.List.{list_any}
use Rattle.serde_json.specs.View.{view}
use Rattle.declared_features.specs.Documents.{is_library_kind}
use Rattle.declared_features.proofs.manifests.is_library.Given as goal

-- the answer depends on the kinds that are left
abbrev pub invariant-loop-kind : goal.invariant-loop-kind
invariant-loop-kind l =
    list_any is_library_kind (map view (drop l.kind-index l.kinds)) ≡ list_any is_library_kind (map view l.kinds)
