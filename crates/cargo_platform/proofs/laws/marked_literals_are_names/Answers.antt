use Rattle.cargo_platform.proofs.Changes.{spelled_released, accepted_as_released, refused_as_released}
use Rattle.cargo_platform.proofs.laws.marked_literals_are_names.Goals as goal

pub returns-clause-spelled : goal.returns-clause-spelled
returns-clause-spelled c = λ ts. spelled_released ts

pub returns-clause-accepted : goal.returns-clause-accepted
returns-clause-accepted c = λ ts. accepted_as_released ts

pub returns-clause-refused : goal.returns-clause-refused
returns-clause-refused c = λ text fault. refused_as_released text fault
