use Rattle.std.proofs.Common.{refl}
use Rattle.former_names.specs.Rows.{renamed_rows}
use Rattle.former_names.proofs.rows.renamed.Goals as goal

pub returns : goal.returns
unfolding renamed_rows
returns c = refl
