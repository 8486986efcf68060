use Rattle.cargo_platform.proofs.TextLaws.{value_laws, tree_laws, condition_laws}
use Rattle.cargo_platform.proofs.laws.one_text.Goals as goal

pub returns-clause-values : goal.returns-clause-values
returns-clause-values c = λ text a b p q. value_laws.one text a b p q

pub returns-clause-expressions : goal.returns-clause-expressions
returns-clause-expressions c = λ text a b p q. tree_laws.one text a b p q

pub returns-clause-conditions : goal.returns-clause-conditions
returns-clause-conditions c = λ text a b p q. condition_laws.one text a b p q
