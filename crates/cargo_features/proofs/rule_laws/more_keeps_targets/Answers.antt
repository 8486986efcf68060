use Rattle.cargo_features.proofs.Following.{more_derived}
use Rattle.cargo_features.proofs.rule_laws.more_keeps_targets.Goals as goal

pub returns : goal.returns
returns c sets more rules others k n all part = more_derived sets more rules others k n all part
