use Rattle.std.proofs.Common.{arith}
use Rattle.std.proofs.lemmas.Result.{IfOk-weaker}
use Rattle.exact_answers.proofs.Tables.{made-twice}
use Rattle.exact_answers.proofs.Steps.{and-step}
use Rattle.exact_answers.proofs.goal_diagrams.building.join_value.Goals as goal

pub join-requires : goal.join-requires
join-requires g c =
    record {
      table = c.in_ok-place.ensures.made.table;
      one = omega (arith, c.requires.among, c.in_ok-place.ensures.made.grows.more);
      other = c.in_ok-place.ensures.made.inside;
    }

pub returns-clause-made : goal.returns-clause-made
returns-clause-made g c =
    IfOk-weaker c.join.result _ _
    (λ both made. made-twice c.args.table.now c.build_value.new.table c.join.new.self c.in_ok-place.place both
    c.in_ok-place.ensures.made made)
    c.join.ensures.made

pub returns-clause-means : goal.returns-clause-means
returns-clause-means g c =
    IfOk-weaker c.join.result _ _
    (λ both is s told.
    and-step s c.args.query.now.pairs.now c.args.table.now c.build_value.new.table c.join.new.self c.args.among
    c.in_ok-place.place both _ c.requires.among c.in_ok-place.ensures.made (c.in_ok-place.ensures.means s told) is)
    c.join.ensures.means
