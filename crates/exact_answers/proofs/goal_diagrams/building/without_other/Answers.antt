use Rattle.std.proofs.Common.{◌≡◌, true, refl, arith}
use Rattle.std.proofs.lemmas.Result.{IfOk-weaker}
use Rattle.exact_answers.specs.Goals.{pairs_of, holds_in}
use Rattle.exact_answers.proofs.Tables.{none-made, made-twice}
use Rattle.exact_answers.proofs.Steps.{apart-step}
use Rattle.exact_answers.proofs.goal_diagrams.building.without_other.Goals as goal

pub join-requires : goal.join-requires
join-requires g c =
    record {
      table = c.in_ok-place.ensures.made.table;
      one = omega (arith, c.requires.among, c.in_ok-place.ensures.made.grows.more);
      other = c.in_ok-place.ensures.made.inside;
    }

pub returns-in_ok-place-clause-made : goal.returns-in_ok-place-clause-made
returns-in_ok-place-clause-made g c =
    IfOk-weaker c.join.result _ _
    (λ both made. made-twice c.args.table.now c.pair.new.self c.join.new.self c.in_ok-place.place both
    c.in_ok-place.ensures.made made)
    c.join.ensures.made

pub returns-in_ok-place-clause-means : goal.returns-in_ok-place-clause-means
returns-in_ok-place-clause-means g c =
    let apart : c.are_apart.result ≡ true = cc in
    IfOk-weaker c.join.result _ _
    (λ both is s has holds.
    apart-step s c.args.query.now.pairs.now c.args.table.now c.pair.new.self c.join.new.self c.args.among
    c.in_ok-place.place both c.args.numbers.one c.args.numbers.other
    (c.are_apart.ensures apart s has) holds c.requires.among
    c.in_ok-place.ensures.made (c.in_ok-place.ensures.means (holds_in s (pairs_of c.args.query.now.pairs.now))) is)
    c.join.ensures.means

pub returns-else-are_apart-clause-made : goal.returns-else-are_apart-clause-made
returns-else-are_apart-clause-made g c = none-made c.args.table.now c.args.among c.requires.table c.requires.among

pub returns-else-are_apart-clause-means : goal.returns-else-are_apart-clause-means
returns-else-are_apart-clause-means g c = λ s has holds. refl
