use Rattle.std.proofs.Common.{arith}
use Rattle.std.proofs.lemmas.Result.{IfOk-weaker}
use Rattle.exact_answers.specs.Goals.{pairs_of, holds_in}
use Rattle.exact_answers.proofs.Tables.{made-twice}
use Rattle.exact_answers.proofs.Steps.{one-step}
use Rattle.exact_answers.proofs.goal_diagrams.building.one_value.Goals as goal

pub join-requires : goal.join-requires
join-requires g c =
    record {
      table = c.in_ok-without.ensures.made.table;
      one = omega (arith, c.in_ok-others.ensures.made.inside, c.in_ok-without.ensures.made.grows.more);
      other = c.in_ok-without.ensures.made.inside;
    }

pub returns-clause-made : goal.returns-clause-made
returns-clause-made g c =
    let others = c.no_later_value.new.table in
    let without = c.pair.new.self in
    IfOk-weaker c.join.result _ _
    (λ place made. made-twice c.args.table.now without c.join.new.self c.in_ok-without.without place
    (made-twice c.args.table.now others without c.in_ok-others.others c.in_ok-without.without
    c.in_ok-others.ensures.made c.in_ok-without.ensures.made)
    made)
    c.join.ensures.made

pub returns-clause-means : goal.returns-clause-means
returns-clause-means g c =
    IfOk-weaker c.join.result _ _
    (λ place is s has.
    one-step s c.args.query.now.pairs.now c.no_later_value.new.table c.pair.new.self c.join.new.self
    c.in_ok-others.others c.in_ok-without.without place c.args.number (c.in_ok-others.ensures.means s has)
    c.in_ok-others.ensures.made.inside c.in_ok-without.ensures.made.grows
    (c.in_ok-without.ensures.means (holds_in s (pairs_of c.args.query.now.pairs.now))) is)
    c.join.ensures.means
