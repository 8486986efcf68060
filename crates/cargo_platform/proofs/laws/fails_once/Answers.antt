use Rattle.cargo_platform.proofs.Runs.{fails_once}
use Rattle.cargo_platform.proofs.laws.fails_once.Goals as goal

pub returns : goal.returns
returns c = λ old new. fails_once old new
