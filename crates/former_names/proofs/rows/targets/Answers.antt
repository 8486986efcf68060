use Rattle.std.proofs.Common.{refl}
use Rattle.former_names.specs.Rows.{target_rows}
use Rattle.former_names.proofs.rows.targets.Goals as goal

pub returns : goal.returns
unfolding target_rows
returns c = refl
