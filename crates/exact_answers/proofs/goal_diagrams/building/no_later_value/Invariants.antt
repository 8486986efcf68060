use Rattle.std.proofs.Common.{◌≡◌, ◌<◌, ◌≤◌, true, length}
use Rattle.cargo_platform.specs.Facts.{FactSet}
use Rattle.partial_facts.specs.Partly.{names_of}
use Rattle.exact_answers.specs.Goals.{HasOneOpenValue, pairs_of, holds_in}
use Rattle.exact_answers.specs.Diagrams.{IsMade}
use Rattle.exact_answers.specs.Inside.Making.{says}
use Rattle.exact_answers.proofs.goal_diagrams.building.no_later_value.Given as goal

abbrev pub invariant-others : goal.invariant-others
invariant-others g l = record {
  later : l.number < l.other;
  within : l.other ≤ length l.query.pairs.now;
  made : IsMade l.fn.table l.table l.place;
  means : (s : FactSet) → HasOneOpenValue (g.K.Knowledge.told l.query.known.now) (names_of l.single) s
      → holds_in s (pairs_of l.query.pairs.now) l.number ≡ true
      → says s l.query.pairs.now l.table l.place ≡ true;
}

abbrev pub decreases-others : goal.decreases-others
decreases-others g l = l.other
