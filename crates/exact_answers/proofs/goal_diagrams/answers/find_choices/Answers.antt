use Rattle.std.proofs.Common.{sym, subst}
use Rattle.std.proofs.lemmas.Result.{IfOk-weaker}
use Rattle.exact_answers.specs.Goals.{SaysOutcome, goals_met, pairs_of}
use Rattle.exact_answers.proofs.goal_diagrams.answers.find_choices.Goals as goal

pub choices_from-requires : goal.choices_from-requires
choices_from-requires g c = record {
  table = c.in-Ok.ensures.made.table.earlier;
  place = c.in-Ok.ensures.made.inside;
}

pub returns-in-Ok : goal.returns-in-Ok
returns-in-Ok g c =
    IfOk-weaker c.choices_from.result _ _
    (λ r is s allowed has.
    subst (SaysOutcome r s (pairs_of c.args.pairs.now))
    (c.in-Ok.ensures.means s (λ p. g.met.K.Knowledge.sound c.args.known.now s p allowed) has)
    (is s c.args.pairs.now))
    c.choices_from.ensures

pub returns : goal.returns
returns g c =
    IfOk-weaker c.without_diagram.result _ _
    (λ r is s allowed has.
    subst (λ r. SaysOutcome r s (pairs_of c.args.pairs.now) (goals_met s c.args.goals.now)) (sym is) tt)
    c.without_diagram.ensures
