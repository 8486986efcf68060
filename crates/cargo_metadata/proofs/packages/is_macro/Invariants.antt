use Rattle.std.proofs.Common.{◌≡◌, map, drop}
use Rattle.std.specs.List.{list_any}
use Rattle.serde_json.specs.View.{view}
use Rattle.cargo_metadata.specs.Packages.{has_macro_kind}
use Rattle.cargo_metadata.proofs.packages.is_macro.Given as goal

-- the answer depends on the targets that are left
abbrev pub invariant-loop-target : goal.invariant-loop-target
invariant-loop-target l =
    list_any has_macro_kind (map view (drop l.target-index l.targets)) ≡ list_any has_macro_kind (map view l.targets)
