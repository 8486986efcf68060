use Rattle.std.proofs.Common.{◌-◌, length}
use Rattle.exact_answers.proofs.goal_diagrams.building.number_of.Given as goal

abbrev pub decreases-pairs : goal.decreases-pairs
decreases-pairs l = length l.pairs - l.number
