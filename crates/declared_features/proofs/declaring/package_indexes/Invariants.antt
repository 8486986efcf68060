use Rattle.std.proofs.Common.{◌≡◌, map, take}
use Rattle.declared_features.specs.Manifests.{package_index}
use Rattle.declared_features.proofs.declaring.package_indexes.Given as goal

abbrev pub invariant-nodes : goal.invariant-nodes
invariant-nodes l =
    l.indexes.items ≡ map (package_index l.metadata.packages.items) (take l.i l.metadata.nodes.items)
