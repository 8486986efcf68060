use Rattle.cargo_platform.proofs.OneText.{one_value}
use Rattle.cargo_platform.proofs.laws.one_value.Goals as goal

pub returns : goal.returns
returns c = λ ts c d p q. one_value c d ts p q
