use Rattle.cargo_platform.proofs.Changes.{tree_text_as_released, keeps_tree}
use Rattle.cargo_platform.proofs.laws.expressions_as_released.Goals as goal

pub returns-clause-accepted : goal.returns-clause-accepted
returns-clause-accepted c = λ text. tree_text_as_released text

pub returns-clause-kept : goal.returns-clause-kept
returns-clause-kept c = λ text. keeps_tree text
