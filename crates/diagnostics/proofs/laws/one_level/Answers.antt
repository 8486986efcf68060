use Rattle.diagnostics.proofs.Making.{one}
use Rattle.diagnostics.proofs.laws.one_level.Goals as goal

pub returns : goal.returns
returns c = one
