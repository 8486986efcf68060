use Rattle.cargo_platform.proofs.Changes.{condition_text_as_released, keeps_condition}
use Rattle.cargo_platform.proofs.Changes.{condition_refused_as_released}
use Rattle.cargo_platform.proofs.laws.conditions_as_released.Goals as goal

pub returns-clause-accepted : goal.returns-clause-accepted
returns-clause-accepted c = λ text. condition_text_as_released text

pub returns-clause-kept : goal.returns-clause-kept
returns-clause-kept c = λ text. keeps_condition text

pub returns-clause-refused : goal.returns-clause-refused
returns-clause-refused c = λ text orig fault. condition_refused_as_released text orig fault
