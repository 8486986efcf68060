use Rattle.std.proofs.Common.{◌<◌, ◌∙◌, sym, ap, subst}
use Rattle.std.proofs.lemmas.Result.{IfOk-weaker}
use Rattle.cargo_platform.specs.Trees.{value_of}
use Rattle.cargo_platform.specs.Facts.{pair_of}
use Rattle.exact_answers.specs.Goals.{true_as_wanted}
use Rattle.exact_answers.specs.Diagrams.{nodes_of, places}
use Rattle.exact_answers.specs.Goals.{pairs_of, holds_in}
use Rattle.exact_answers.proofs.Tables.{none-made, literal-inside}
use Rattle.exact_answers.proofs.Pairs.{holds_at}
use Rattle.exact_answers.proofs.Steps.{told-step}
use Rattle.exact_answers.proofs.goal_diagrams.building.build_value.Goals as goal

pub returns-in-Some-clause-made : goal.returns-in-Some-clause-made
returns-in-Some-clause-made g c =
    let ns = nodes_of c.args.table.now in
    none-made c.args.table.now c.literal.result c.requires
    (subst (λ x. x < places ns) (sym c.literal.ensures) (literal-inside ns c.matches_wanted.result))

pub returns-in-Some-clause-means : goal.returns-in-Some-clause-means
returns-in-Some-clause-means g c = λ s told.
    let p = pair_of (value_of c.args.c.now) in
    told-step (g.K.Knowledge.told c.args.query.now.known.now) s c.args.query.now.pairs.now c.args.table.now p
    c.literal.result c.args.wanted c.in-Some.truth c.matches_wanted.result c.literal.ensures c.matches_wanted.ensures
    (sym c.tells.ensures ∙ c.in-Some.is) told

pub returns-in-Some-number_of-clause-means : goal.returns-in-Some-number_of-clause-means
returns-in-Some-number_of-clause-means g c =
    let ps = pairs_of c.args.query.now.pairs.now in
    IfOk-weaker c.pair.result _ _
    (λ place is s told.
    is (holds_in s ps) ∙ ap (true_as_wanted c.args.wanted) (holds_at s ps c.in-Some-number_of.number _
    c.in-Some-number_of.ensures))
    c.pair.ensures.means
