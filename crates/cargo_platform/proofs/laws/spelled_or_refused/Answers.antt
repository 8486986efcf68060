use Rattle.cargo_platform.specs.Spelling.{Values, Expressions}
use Rattle.cargo_platform.proofs.ConditionFaults.{spells_condition_or_is_refused}
use Rattle.cargo_platform.proofs.SomeFault.{spells_or_is_refused}
use Rattle.cargo_platform.proofs.laws.spelled_or_refused.Goals as goal

pub returns-clause-values : goal.returns-clause-values
returns-clause-values c = λ text utf8. spells_or_is_refused Values text utf8

pub returns-clause-expressions : goal.returns-clause-expressions
returns-clause-expressions c = λ text utf8. spells_or_is_refused Expressions text utf8

pub returns-clause-conditions : goal.returns-clause-conditions
returns-clause-conditions c = λ text utf8. spells_condition_or_is_refused text utf8
