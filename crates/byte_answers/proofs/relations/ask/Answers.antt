use Rattle.byte_answers.proofs.relations.ask.Goals as goal

pub returns-in-Implies : goal.returns-in-Implies
returns-in-Implies c = rw c.in-Implies.is c.implies_platform.ensures

pub returns-in-Equivalent : goal.returns-in-Equivalent
returns-in-Equivalent c = rw c.in-Equivalent.is c.equivalent_platform.ensures

pub returns-in-Excludes : goal.returns-in-Excludes
returns-in-Excludes c = rw c.in-Excludes.is c.excludes_platform.ensures
