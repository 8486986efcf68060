use Rattle.std.proofs.Common.{◌≡◌, ◌+◌, ◌*◌, ◌&&◌, ◌||◌, length, map}
use Rattle.cargo_platform.specs.Trees.{tree_of}
use Rattle.cargo_platform.specs.Facts.{FactSet}
use Rattle.exact_answers.specs.Goals.{IsAsTold}
use Rattle.exact_answers.specs.Diagrams.{IsMade}
use Rattle.exact_answers.specs.Inside.Making.{says, each_wanted, some_wanted}
use Rattle.exact_answers.proofs.goal_diagrams.building.+build.Given as goal

abbrev pub decreases-build : goal.decreases-build
decreases-build g l = 4 * l.levels

abbrev pub decreases-build_group : goal.decreases-build_group
decreases-build_group g l = 4 * l.levels + 2

abbrev pub decreases-build_each : goal.decreases-build_each
decreases-build_each g l = 4 * l.levels + 1

abbrev pub decreases-build_some : goal.decreases-build_some
decreases-build_some g l = 4 * l.levels + 1

-- the members that are left say what is still to be joined
abbrev pub invariant-build_each-members : goal.invariant-build_each-members
invariant-build_each-members g l = record {
  made : IsMade l.fn.table l.table l.place;
  means : (s : FactSet) → IsAsTold (g.K.Knowledge.told l.query.known.now) s
      → (says s l.query.pairs.now l.table l.place && each_wanted l.group.wanted s (map tree_of l.left))
      ≡ (says s l.query.pairs.now l.fn.table l.among && each_wanted l.group.wanted s (map tree_of l.group.members.now));
}

abbrev pub decreases-build_each-members : goal.decreases-build_each-members
decreases-build_each-members g l = length l.left

abbrev pub invariant-build_some-members : goal.invariant-build_some-members
invariant-build_some-members g l = record {
  made : IsMade l.fn.table l.table l.place;
  means : (s : FactSet) → IsAsTold (g.K.Knowledge.told l.query.known.now) s
      → (says s l.query.pairs.now l.table l.place || some_wanted l.group.wanted s (map tree_of l.left))
      ≡ some_wanted l.group.wanted s (map tree_of l.group.members.now);
}

abbrev pub decreases-build_some-members : goal.decreases-build_some-members
decreases-build_some-members g l = length l.left
