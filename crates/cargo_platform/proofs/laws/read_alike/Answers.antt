use Rattle.cargo_platform.proofs.Runs.{read_alike}
use Rattle.cargo_platform.proofs.laws.read_alike.Goals as goal

pub returns : goal.returns
returns c = λ text. read_alike text
