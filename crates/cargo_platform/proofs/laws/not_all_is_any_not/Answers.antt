use Rattle.cargo_platform.proofs.FactTruths.{not_all}
use Rattle.cargo_platform.proofs.laws.not_all_is_any_not.Goals as goal

pub returns : goal.returns
returns c = not_all
