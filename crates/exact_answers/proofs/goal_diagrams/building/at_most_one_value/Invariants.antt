use Rattle.std.proofs.Common.{◌≡◌, ◌≤◌, true, length}
use Rattle.cargo_platform.specs.Facts.{FactSet}
use Rattle.partial_facts.specs.Partly.{names_of}
use Rattle.exact_answers.specs.Goals.{HasOneOpenValue}
use Rattle.exact_answers.specs.Diagrams.{IsMade}
use Rattle.exact_answers.specs.Inside.Making.{says}
use Rattle.exact_answers.proofs.goal_diagrams.building.at_most_one_value.Given as goal

abbrev pub invariant-numbers : goal.invariant-numbers
invariant-numbers g l = record {
  within : l.number ≤ length l.query.pairs.now;
  made : IsMade l.fn.table l.table l.place;
  means : (s : FactSet) → HasOneOpenValue (g.K.Knowledge.told l.query.known.now) (names_of l.single) s
      → says s l.query.pairs.now l.table l.place ≡ true;
}

abbrev pub decreases-numbers : goal.decreases-numbers
decreases-numbers g l = l.number
