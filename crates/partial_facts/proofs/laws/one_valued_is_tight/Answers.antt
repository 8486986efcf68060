use Rattle.partial_facts.proofs.SingleValues.{left_open}
use Rattle.partial_facts.proofs.laws.one_valued_is_tight.Goals as goal

pub returns : goal.returns
returns c = left_open
