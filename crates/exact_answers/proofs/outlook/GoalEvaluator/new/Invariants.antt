use Rattle.std.proofs.Common.{◌≡◌, [], ◌∷◌, reverse}
use Rattle.std.specs.List.{All}
use Rattle.cargo_platform.specs.Facts.{FactSet}
use Rattle.exact_answers.specs.Goals.{goals_met, pairs_of}
use Rattle.exact_answers.specs.Asking.{some_asks}
use Rattle.exact_answers.specs.Inside.Searches.{goal_trees}
use Rattle.exact_answers.specs.Inside.Ahead.{outcome, goals_size, HasNumber, AreAmong, AsksAmong}
use Rattle.exact_answers.proofs.outlook.GoalEvaluator.new.Given as goal

-- what is added, once the goals that are left are worked out
abbrev pub invariant-goals : goal.invariant-goals
invariant-goals l = record {
  works_out : (s : FactSet) → outcome s l.outlook (reverse l.pending.items) ≡ goals_met s l.goals ∷ [];
  numbered : All (HasNumber (pairs_of l.outlook.pairs.items)) l.outlook.operations.items;
  asked : AreAmong (some_asks (goal_trees l.goals)) (pairs_of l.outlook.pairs.items);
  pending : All (AsksAmong (some_asks (goal_trees l.goals))) l.pending.items;
}

abbrev pub decreases-goals : goal.decreases-goals
decreases-goals l = goals_size l.pending.items
