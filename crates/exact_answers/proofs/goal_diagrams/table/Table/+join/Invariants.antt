use Rattle.std.proofs.Common.{◌+◌}
use Rattle.exact_answers.proofs.goal_diagrams.table.Table.+join.Given as goal

abbrev pub decreases-join : goal.decreases-join
decreases-join l = l.one + l.other
