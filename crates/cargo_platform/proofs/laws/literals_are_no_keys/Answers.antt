use Rattle.cargo_platform.proofs.Changes.{was_spelled, refused_for_literal_keys}
use Rattle.cargo_platform.proofs.laws.literals_are_no_keys.Goals as goal

pub returns-clause-spelled : goal.returns-clause-spelled
returns-clause-spelled c = λ ts e p. was_spelled e ts p

pub returns-clause-refused : goal.returns-clause-refused
returns-clause-refused c = λ ts. refused_for_literal_keys ts
