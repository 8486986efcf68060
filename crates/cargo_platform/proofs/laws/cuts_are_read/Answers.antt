use Rattle.cargo_platform.proofs.Runs.{cuts_are_read}
use Rattle.cargo_platform.proofs.laws.cuts_are_read.Goals as goal

pub returns : goal.returns
returns c = λ text. cuts_are_read text
