use Rattle.exact_answers.specs.Inside.Searches.{goal_trees}
use Rattle.exact_answers.proofs.Ending.{met_on}
use Rattle.exact_answers.proofs.diagram.tried.Goals as goal

pub returns-in-Decided-true : goal.returns-in-Decided-true
returns-in-Decided-true c =
    met_on c.in_ok-path.path c.args.known.now c.args.goals.now c.next_step.result c.in-Decided-true.field-0
    (c.in_ok-path.ensures (goal_trees c.args.goals.now) c.requires) c.next_step.ensures c.in-Decided-true.is (cc)
