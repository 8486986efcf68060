use Rattle.std.proofs.lemmas.Result.{IfOk-weaker}
use Rattle.exact_answers.specs.Goals.{pairs_of}
use Rattle.exact_answers.proofs.Ending.{missed}
use Rattle.exact_answers.proofs.diagram.outcome_within.Goals as goal

pub returns : goal.returns
returns c =
    IfOk-weaker c.find_choices.result _ _
    (λ r says. missed c.new-path.result c.args.known.now c.args.goals.now (pairs_of c.args.pairs.now) r
    c.new-path.ensures.known c.new-path.ensures.none says)
    c.find_choices.ensures
