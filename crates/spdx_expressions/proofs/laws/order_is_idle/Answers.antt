use Rattle.spdx_expressions.proofs.Allowing.{order_is_idle}
use Rattle.spdx_expressions.proofs.laws.order_is_idle.Goals as goal

pub returns : goal.returns
returns c = order_is_idle
