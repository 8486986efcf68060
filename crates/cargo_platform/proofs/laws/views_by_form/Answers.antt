use Rattle.cargo_platform.proofs.TreeViews.{tree_of-Not, tree_of-All, tree_of-Any, tree_of-Value, tree_of-True}
use Rattle.cargo_platform.proofs.TreeViews.{tree_of-False}
use Rattle.cargo_platform.proofs.laws.views_by_form.Goals as goal

pub returns-clause-negations : goal.returns-clause-negations
returns-clause-negations c = tree_of-Not

pub returns-clause-all : goal.returns-clause-all
returns-clause-all c = tree_of-All

pub returns-clause-any : goal.returns-clause-any
returns-clause-any c = tree_of-Any

pub returns-clause-values : goal.returns-clause-values
returns-clause-values c = tree_of-Value

pub returns-clause-literals : goal.returns-clause-literals
returns-clause-literals c = record { yes = tree_of-True; no = tree_of-False }
