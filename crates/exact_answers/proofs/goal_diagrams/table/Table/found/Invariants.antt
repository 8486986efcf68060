use Rattle.exact_answers.proofs.goal_diagrams.table.Table.found.Given as goal

abbrev pub decreases-places : goal.decreases-places
decreases-places l = l.place
