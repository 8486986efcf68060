use Rattle.std.proofs.Common.{◌∙◌, true, arith}
use Rattle.exact_answers.specs.Diagrams.{nodes_of}
use Rattle.exact_answers.specs.Goals.{pairs_of, holds_in}
use Rattle.exact_answers.proofs.Tables.{none-made, made-twice, value-true}
use Rattle.exact_answers.proofs.Steps.{and-step}
use Rattle.exact_answers.proofs.goal_diagrams.building.at_most_one_value.Goals as goal

pub numbers-init : goal.numbers-init
numbers-init g c =
    record {
      within = omega arith;
      made = none-made c.args.table.now 1 c.requires (omega arith);
      means = λ s has. value-true (holds_in s (pairs_of c.args.query.now.pairs.now)) (nodes_of c.args.table.now);
    }

pub join-requires : goal.join-requires
join-requires g c =
    record {
      table = c.in_ok-next.ensures.made.table;
      one = omega (arith, c.numbers.invariant.made.inside, c.in_ok-next.ensures.made.grows.more);
      other = c.in_ok-next.ensures.made.inside;
    }

pub numbers-preserved : goal.numbers-preserved
numbers-preserved g c =
    let first = c.numbers.table in
    let second = c.one_value.new.table in
    let third = c.join.new.self in
    record {
      within = omega arith;
      made = made-twice c.args.table.now second third c.in_ok-next.next c.in_ok-both.both
          (made-twice c.args.table.now first second c.numbers.place c.in_ok-next.next c.numbers.invariant.made
          c.in_ok-next.ensures.made)
          c.in_ok-both.ensures.made;
      means = λ s has.
          and-step s c.args.query.now.pairs.now first second third c.numbers.place c.in_ok-next.next
          c.in_ok-both.both true c.numbers.invariant.made.inside c.in_ok-next.ensures.made
          (c.in_ok-next.ensures.means s has) c.in_ok-both.ensures.means
          ∙ (rw (c.numbers.invariant.means s has));
    }
