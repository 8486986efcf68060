use Rattle.std.proofs.Common.{◌∙◌, arith}
use Rattle.exact_answers.specs.Diagrams.{nodes_of}
use Rattle.exact_answers.specs.Goals.{pairs_of, holds_in}
use Rattle.exact_answers.proofs.Tables.{none-made, made-twice, value-true}
use Rattle.exact_answers.proofs.goal_diagrams.building.no_later_value.Goals as goal

pub others-init : goal.others-init
others-init g c =
    record {
      later = omega arith;
      within = omega arith;
      made = none-made c.args.table.now 1 c.requires.table (omega arith);
      means = λ s has holds. value-true (holds_in s (pairs_of c.args.query.now.pairs.now)) (nodes_of c.args.table.now);
    }

pub others-preserved : goal.others-preserved
others-preserved g c =
    record {
      later = omega arith;
      within = omega arith;
      made = made-twice c.args.table.now c.others.table c.without_other.new.table c.others.place c.in_ok-next.next
          c.others.invariant.made c.in_ok-next.ensures.made;
      means = λ s has holds. c.in_ok-next.ensures.means s has holds ∙ c.others.invariant.means s has holds;
    }
