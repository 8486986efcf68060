use Rattle.byte_answers.proofs.Rules.{only_rules}
use Rattle.byte_answers.proofs.relations.possible.Goals as goal

pub returns-clause-done : goal.returns-clause-done
returns-clause-done c = λ done.
    let k = c.rules_alone-known in (
      k.result,
      (
        only_rules k.result _ k.ensures.facts k.ensures.complete k.ensures.single k.ensures.assumed
            c.in-Ok.ensures.sets,
        c.possible_by.ensures.yes done,
        c.possible_by.ensures.no done,
      ),
    )

pub returns-clause-undecided : goal.returns-clause-undecided
returns-clause-undecided c = λ is.
    let k = c.rules_alone-known in (
      k.result,
      (
        only_rules k.result _ k.ensures.facts k.ensures.complete k.ensures.single k.ensures.assumed
            c.in-Ok.ensures.sets,
        c.possible_by.ensures.undecided is,
      ),
    )
