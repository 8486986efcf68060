use Rattle.std.proofs.Common.{◌≡◌, map, take}
use Rattle.manifests.specs.Selecting.{chosen_of, selected}
use Rattle.manifests.specs.Tables.{row_of}
use Rattle.manifests.proofs.selection.outside.Given as goal

abbrev pub invariant-dependencies : goal.invariant-dependencies
invariant-dependencies l =
    map chosen_of l.rows.items ≡ map selected (map row_of (take l.dependency-index l.dependency-items))
