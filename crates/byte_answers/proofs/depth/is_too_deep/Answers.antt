use Rattle.std.proofs.Common.{arith}
use Rattle.byte_answers.specs.Depths.{IsTooDeep}
use Rattle.byte_answers.proofs.depth.is_too_deep.Goals as goal

pub returns-in-Some-clause-deep : goal.returns-in-Some-clause-deep
unfolding IsTooDeep
returns-in-Some-clause-deep c = λ is. c.in-Some.ensures.beyond

pub returns-in-None-clause-shallow : goal.returns-in-None-clause-shallow
unfolding IsTooDeep
returns-in-None-clause-shallow c = λ is deep.
    let within = c.in-None.ensures.within in
    omega (arith, within.2, deep within.0 within.1)
