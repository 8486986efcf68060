use Rattle.diagnostics.proofs.Making.{kept}
use Rattle.diagnostics.proofs.laws.rules_that_do_not_apply_do_nothing.Goals as goal

pub returns : goal.returns
returns c = kept
