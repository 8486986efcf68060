use Rattle.partial_facts.proofs.Telling.{allowed, left_open}
use Rattle.partial_facts.proofs.laws.partial_is_tight.Goals as goal

pub returns-clause-allowed : goal.returns-clause-allowed
returns-clause-allowed c = allowed

pub returns-clause-open : goal.returns-clause-open
returns-clause-open c = left_open c.facts_are_pairs_of_members.ensures
