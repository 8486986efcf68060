use Rattle.std.proofs.Common.{◌≡◌, map, drop}
use Rattle.serde_json.specs.View.{view}
use Rattle.declared_features.specs.Documents.{library_among}
use Rattle.declared_features.proofs.manifests.library_of.Given as goal

-- the answer depends on the targets that are left
abbrev pub invariant-loop-target : goal.invariant-loop-target
invariant-loop-target l =
    library_among (map view (drop l.target-index l.targets)) ≡ library_among (map view l.targets)
