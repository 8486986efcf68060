use Rattle.cargo_platform.proofs.TextLaws.{value_laws, tree_laws, condition_laws, apart}
use Rattle.cargo_platform.proofs.laws.prints_apart.Goals as goal

pub returns-clause-values : goal.returns-clause-values
returns-clause-values c = λ a b v w h. apart value_laws a b v w h

pub returns-clause-expressions : goal.returns-clause-expressions
returns-clause-expressions c = λ a b v w h. apart tree_laws a b v w h

pub returns-clause-conditions : goal.returns-clause-conditions
returns-clause-conditions c = λ a b v w h. apart condition_laws a b v w h
