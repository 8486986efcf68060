use Rattle.cargo_platform.specs.Inside.Matching.{words}
use Rattle.cargo_platform.proofs.Evaluating.{settled_bits}
use Rattle.cargo_platform.proofs.matching.Levels.is_settled.Goals as goal

pub returns-clause-settled : goal.returns-clause-settled
returns-clause-settled c = λ fs gs h. settled_bits fs (words c.args.self.now) gs h
