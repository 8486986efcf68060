use Rattle.spdx_expressions.proofs.One.{one_fault, one_refuses}
use Rattle.spdx_expressions.proofs.Licence.from_str.Goals as goal

pub returns-in-Err-clause-refused : goal.returns-in-Err-clause-refused
returns-in-Err-clause-refused c =
    one_refuses c.args.text.now c.in-Err.refusal c.into_error.result c.in-Err.ensures.refused c.into_error.ensures

pub returns-in-Err-clause-fault : goal.returns-in-Err-clause-fault
returns-in-Err-clause-fault c =
    one_fault c.args.text.now c.in-Err.refusal c.into_error.result c.in-Err.ensures.refused c.into_error.ensures
