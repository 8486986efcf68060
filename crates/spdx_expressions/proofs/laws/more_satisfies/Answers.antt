use Rattle.spdx_expressions.proofs.Allowing.{more_satisfies}
use Rattle.spdx_expressions.proofs.laws.more_satisfies.Goals as goal

pub returns : goal.returns
returns c = more_satisfies
