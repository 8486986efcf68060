use Rattle.cargo_platform.proofs.TextLaws.{value_laws, tree_laws, condition_laws}
use Rattle.cargo_platform.proofs.laws.refused_spells_nothing.Goals as goal

pub returns-clause-values : goal.returns-clause-values
returns-clause-values c = λ text a fault r s. value_laws.none text text fault r a s

pub returns-clause-expressions : goal.returns-clause-expressions
returns-clause-expressions c = λ text a fault r s. tree_laws.none text text fault r a s

pub returns-clause-conditions : goal.returns-clause-conditions
returns-clause-conditions c = λ text a fault r s. condition_laws.none text fault.0 fault.1 r a s
