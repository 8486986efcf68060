use Rattle.cargo_platform.proofs.Completable.{completed_shortly}
use Rattle.cargo_platform.proofs.laws.completed_shortly.Goals as goal

pub returns : goal.returns
returns c = λ ts p. completed_shortly ts p
