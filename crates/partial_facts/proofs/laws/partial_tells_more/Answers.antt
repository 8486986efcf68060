use Rattle.partial_facts.proofs.Learning.{partial_more}
use Rattle.partial_facts.proofs.laws.partial_tells_more.Goals as goal

pub returns : goal.returns
returns c = partial_more
