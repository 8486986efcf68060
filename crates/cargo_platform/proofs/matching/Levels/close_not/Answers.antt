use Rattle.cargo_platform.specs.Walk.{Negated}
use Rattle.cargo_platform.proofs.Evaluating.{not_answer}
use Rattle.cargo_platform.proofs.matching.Levels.close_not.Goals as goal

pub returns : goal.returns
returns c = λ fs gs e h is. (c.pop.ensures fs Negated gs h, not_answer fs gs c.args.is_true e is)
