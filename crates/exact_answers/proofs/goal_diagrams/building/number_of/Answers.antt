use Rattle.std.proofs.Common.{◌≡◌, true}
use Rattle.std.specs.Ordering.{eq_by_cmp}
use Rattle.cargo_platform.specs.Trees.{value_of}
use Rattle.cargo_platform.specs.Facts.{pair_of, pair_cmp}
use Rattle.exact_answers.proofs.Pairs.{number_found}
use Rattle.exact_answers.proofs.goal_diagrams.building.number_of.Goals as goal

pub returns-then-is_same : goal.returns-then-is_same
returns-then-is_same c =
    let at = c.index-pairs-number.result in
    let is : eq_by_cmp pair_cmp (pair_of (value_of c.args.c.now)) (pair_of (value_of at.now)) ≡ true = cc in
    number_found c.args.pairs.now c.pairs.number c.args.c at c.pairs-test.true c.index-pairs-number.is is
