use Rattle.cargo_platform.proofs.Completable.{kept_by_walk}
use Rattle.cargo_platform.proofs.laws.kept_by_walk.Goals as goal

pub returns : goal.returns
returns c = λ g ts t s h. kept_by_walk g ts t s h
