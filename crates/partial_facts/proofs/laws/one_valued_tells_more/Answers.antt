use Rattle.partial_facts.proofs.SingleValues.{one_valued_more, more_than_partial}
use Rattle.partial_facts.proofs.laws.one_valued_tells_more.Goals as goal

pub returns-clause-kept : goal.returns-clause-kept
returns-clause-kept c = one_valued_more

pub returns-clause-beside_partial : goal.returns-clause-beside_partial
returns-clause-beside_partial c = more_than_partial
