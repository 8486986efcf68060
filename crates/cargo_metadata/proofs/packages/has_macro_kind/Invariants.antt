use Rattle.std.proofs.Common.{◌≡◌, map, drop}
use Rattle.std.specs.List.{list_any}
use Rattle.serde_json.specs.View.{view}
use Rattle.cargo_metadata.specs.Packages.{is_macro_kind}
use Rattle.cargo_metadata.proofs.packages.has_macro_kind.Given as goal

-- the answer depends on the kinds that are left
abbrev pub invariant-loop-kind : goal.invariant-loop-kind
invariant-loop-kind l =
    list_any is_macro_kind (map view (drop l.kind-index l.kinds)) ≡ list_any is_macro_kind (map view l.kinds)
