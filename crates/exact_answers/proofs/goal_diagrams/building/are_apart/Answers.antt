use Rattle.std.proofs.Common.{◌≡◌, true}
use Rattle.cargo_platform.specs.Trees.{value_of}
use Rattle.cargo_platform.specs.Facts.{pair_of}
use Rattle.partial_facts.specs.Partly.{names_of}
use Rattle.exact_answers.specs.Goals.{pairs_of}
use Rattle.exact_answers.proofs.Pairs.{values_apart}
use Rattle.exact_answers.proofs.goal_diagrams.building.are_apart.Goals as goal

pub returns-then-first_open : goal.returns-then-first_open
returns-then-first_open g c = λ last s has.
    let two : c.are_two_values-two.result ≡ true = cc in
    let first : c.is_open-first_open.result ≡ true = cc in
    values_apart (g.K.Knowledge.told c.args.query.now.known.now) (names_of c.args.single.now) s
    (pairs_of c.args.query.now.pairs.now) c.args.numbers.one c.args.numbers.other
    (pair_of (value_of c.pair_at-first.result.now))
    (pair_of (value_of c.pair_at-second.result.now)) (c.are_two_values-two.ensures two)
    (c.is_open-first_open.ensures first) (c.is_open-second_open.ensures last) c.pair_at-first.ensures
    c.pair_at-second.ensures has
