use Rattle.std.proofs.Common.{◌≡◌, ◌&&◌, drop}
use Rattle.cargo_platform.specs.Facts.{FactSet}
use Rattle.exact_answers.specs.Diagrams.{IsMade}
use Rattle.exact_answers.specs.Goals.{goals_met, IsAsTold}
use Rattle.exact_answers.specs.Inside.Making.{says}
use Rattle.exact_answers.proofs.goal_diagrams.building.build_goals.Given as goal

-- the goals that are left say what is still to be joined
abbrev pub invariant-loop-goal : goal.invariant-loop-goal
invariant-loop-goal g l = record {
  made : IsMade l.fn.table l.table l.place;
  means : (s : FactSet) → IsAsTold (g.K.Knowledge.told l.query.known.now) s
      → (says s l.query.pairs.now l.table l.place && goals_met s (drop l.goal-index l.goals))
      ≡ (says s l.query.pairs.now l.fn.table l.among && goals_met s l.goals);
}
