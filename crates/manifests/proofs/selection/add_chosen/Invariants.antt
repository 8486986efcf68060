use Rattle.std.proofs.Common.{map, take}
use Rattle.cargo_platform.specs.Trees.{condition_of}
use Rattle.manifests.specs.Selecting.{question_in, AreChosen, Adds}
use Rattle.manifests.specs.Tables.{row_of}
use Rattle.manifests.proofs.selection.add_chosen.Given as goal

abbrev pub invariant-dependencies : goal.invariant-dependencies
invariant-dependencies l =
    Adds
    (AreChosen (question_in l.query) (condition_of l.condition)
    (map row_of (take l.dependency-index l.dependencies)))
    l.initial.rows.items l.rows.items
