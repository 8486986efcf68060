use Rattle.std.proofs.Common.{ap, reverse}
use Rattle.exact_answers.proofs.Tables.{no-nodes}
use Rattle.exact_answers.proofs.goal_diagrams.table.Table.new.Goals as goal

pub returns : goal.returns
returns c = no-nodes _ _ (ap reverse c.new-nodes.ensures.items) c.in_ok-joined.ensures
