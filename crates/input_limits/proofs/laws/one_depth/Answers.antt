use Rattle.input_limits.proofs.OneDepth.{some_depth_of_key, not_both, one_place}
use Rattle.input_limits.proofs.laws.one_depth.Goals as goal

pub returns : goal.returns
returns c = record { either = some_depth_of_key; not_both = not_both; place = one_place }
