use Rattle.cargo_platform.proofs.FactTruths.{condition_truth}
use Rattle.cargo_platform.proofs.laws.truth_of_conditions.Goals as goal

pub returns : goal.returns
returns c = condition_truth
