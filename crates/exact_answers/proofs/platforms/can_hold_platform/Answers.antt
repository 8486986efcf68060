use Rattle.cargo_platform.specs.Trees.{condition_of}
use Rattle.exact_answers.proofs.Targets.{can_says, can_by}
use Rattle.exact_answers.proofs.platforms.can_hold_platform.Goals as goal

pub returns : goal.returns
returns c =
    can_by c.as_can.result c.in_ok-found.found _ _ _ _ _ c.as_can.ensures
    (can_says c.args.known.now (condition_of c.args.platform.now) c.args.budget c.in_ok-found.found
    c.in_ok-found.ensures)
