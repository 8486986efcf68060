use Rattle.cargo_platform.proofs.Runs.{ends_for_good}
use Rattle.cargo_platform.proofs.laws.ends_for_good.Goals as goal

pub returns : goal.returns
returns c = λ old new. ends_for_good old new
