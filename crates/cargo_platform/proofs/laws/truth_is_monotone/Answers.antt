use Rattle.cargo_platform.proofs.FactTruths.{more_true}
use Rattle.cargo_platform.proofs.laws.truth_is_monotone.Goals as goal

pub returns : goal.returns
returns c = λ fewer more e without all. more_true fewer more all e without
