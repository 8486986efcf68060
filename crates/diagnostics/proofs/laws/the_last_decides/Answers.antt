use Rattle.diagnostics.proofs.Making.{last}
use Rattle.diagnostics.proofs.laws.the_last_decides.Goals as goal

pub returns : goal.returns
returns c = last
