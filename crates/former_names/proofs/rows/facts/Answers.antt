use Rattle.std.proofs.Common.{refl}
use Rattle.former_names.specs.Rows.{fact_rows}
use Rattle.former_names.proofs.rows.facts.Goals as goal

pub returns : goal.returns
unfolding fact_rows
returns c = refl
