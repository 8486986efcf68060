use Rattle.cargo_platform.proofs.TextLaws.{value_laws, tree_laws, condition_laws}
use Rattle.cargo_platform.proofs.laws.well_formed_text.Goals as goal

pub returns-clause-values : goal.returns-clause-values
returns-clause-values c = λ text a p. value_laws.only text a p

pub returns-clause-expressions : goal.returns-clause-expressions
returns-clause-expressions c = λ text a p. tree_laws.only text a p

pub returns-clause-conditions : goal.returns-clause-conditions
returns-clause-conditions c = λ text a p. condition_laws.only text a p
