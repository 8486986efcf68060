use Rattle.std.proofs.Common.{◌∙◌, ap}
use Rattle.exact_answers.specs.Diagrams.{nodes_of}
use Rattle.exact_answers.proofs.Tables.{value-false}
use Rattle.exact_answers.specs.Goals.{pairs_of, holds_in}
use Rattle.exact_answers.specs.Inside.Making.{says}
use Rattle.exact_answers.proofs.goal_diagrams.answers.choices_from.Goals as goal

pub returns-then-place-eq0 : goal.returns-then-place-eq0
returns-then-place-eq0 c = λ s cs.
    ap (says s cs c.args.table.now) c.if-place-eq0.true
    ∙ value-false (holds_in s (pairs_of cs)) (nodes_of c.args.table.now)

pub returns : goal.returns
returns c = λ s cs. c.in_ok-choices.ensures (holds_in s (pairs_of cs))
