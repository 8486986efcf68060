use Rattle.std.proofs.Common.{sym, ap, ◌∙◌, not, ◌∷◌}
use Rattle.cargo_platform.specs.Walk.{Listed}
use Rattle.cargo_platform.specs.Inside.Parsing.{is_all}
use Rattle.cargo_platform.specs.Inside.Matching.{is_settled}
use Rattle.cargo_platform.proofs.Evaluating.{decides, list_answer}
use Rattle.cargo_platform.proofs.matching.Levels.close_list.Goals as goal

pub returns-in-All : goal.returns-in-All
returns-in-All c = λ fs es gs h.
    let all = is_all c.args.word in
    let s = is_settled fs (Listed all es ∷ gs) in (
      c.pop.ensures fs (Listed all es) gs h,
      list_answer fs all es gs (not c.is_settled-is_settled.result)
          (ap not (c.is_settled-is_settled.ensures.settled fs (Listed all es ∷ gs) h)
          ∙ ap (λ z. decides (is_all z) s) (sym c.in-All.is)),
    )

pub returns-in-Any : goal.returns-in-Any
returns-in-Any c = λ fs es gs h.
    let all = is_all c.args.word in
    let s = is_settled fs (Listed all es ∷ gs) in (
      c.pop.ensures fs (Listed all es) gs h,
      list_answer fs all es gs c.is_settled-is_settled.result
          (c.is_settled-is_settled.ensures.settled fs (Listed all es ∷ gs) h
          ∙ ap (λ z. decides (is_all z) s) (sym c.in-Any.is)),
    )
