use Rattle.std.proofs.Common.{◌∙◌, ap, ◌&&◌}
use Rattle.std.proofs.lemmas.Result.{IfOk-weaker}
use Rattle.exact_answers.specs.Goals.{goals_met}
use Rattle.exact_answers.proofs.Tables.{made-twice}
use Rattle.exact_answers.proofs.goal_diagrams.answers.build_all.Goals as goal

pub returns-clause-made : goal.returns-clause-made
returns-clause-made g c =
    IfOk-weaker c.build_goals.result _ _
    (λ place made. made-twice c.args.table.now c.at_most_one_value.new.table c.build_goals.new.table
    c.in_ok-among.among place c.in_ok-among.ensures.made made)
    c.build_goals.ensures.made

pub returns-clause-means : goal.returns-clause-means
returns-clause-means g c =
    IfOk-weaker c.build_goals.result _ _
    (λ place is s told has.
    is s told ∙ ap (λ x. x && goals_met s c.args.goals.now) (c.in_ok-among.ensures.means s has))
    c.build_goals.ensures.means
