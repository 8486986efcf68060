use Rattle.std.proofs.Common.{◌+◌, ◌*◌}
use Rattle.callers.proofs.conditions.recursive_reader.+reader.Given as goal

abbrev pub decreases-expression : goal.decreases-expression
decreases-expression g l = 2 * l.depth

abbrev pub decreases-members : goal.decreases-members
decreases-members g l = 2 * l.depth + 1

abbrev pub decreases-negation : goal.decreases-negation
decreases-negation g l = 2 * l.depth + 1
