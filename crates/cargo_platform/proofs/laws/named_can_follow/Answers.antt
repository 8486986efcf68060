use Rattle.cargo_platform.proofs.Completable.{named_follows}
use Rattle.cargo_platform.proofs.laws.named_can_follow.Goals as goal

pub returns : goal.returns
returns c = λ g text fault r class n. named_follows g text fault r class n
