use Rattle.std.proofs.Common.{◌≡◌, subst, IfSome}
use Rattle.std.specs.FinSet.{contains}
use Rattle.cargo_platform.specs.Trees.{value_of}
use Rattle.cargo_platform.specs.Facts.{pair_of}
use Rattle.exact_answers.specs.Inside.Ahead.{AreChosen}
use Rattle.exact_answers.proofs.Ahead.{told_chosen, open_chosen}
use Rattle.exact_answers.proofs.outlook.next_pair_sets.Goals as goal

pub returns-in-Some-clause-next : goal.returns-in-Some-clause-next
returns-in-Some-clause-next c = λ s ws told chosen.
    let so : contains s (pair_of (value_of c.args.pair.now)) ≡ c.in-Some.fact =
    subst (λ t. IfSome t (λ b. contains s (pair_of (value_of c.args.pair.now)) ≡ b)) c.in-Some.is told in
    told_chosen s c.args.patterns.now ws c.told.result chosen (λ l low. c.told.ensures.fits s l low so)

pub returns-in-None-split_first-clause-next : goal.returns-in-None-split_first-clause-next
returns-in-None-split_first-clause-next c = λ s ws told chosen.
    told_chosen s c.args.patterns.now ws c.unsplit.result chosen (λ l low. c.unsplit.ensures.fits s l low)

pub returns-in-Some-split_first-clause-next : goal.returns-in-Some-split_first-clause-next
returns-in-Some-split_first-clause-next c = λ s ws told chosen.
    open_chosen s _ _ ws _ (contains s (pair_of (value_of c.args.pair.now)))
    (subst (λ left. AreChosen s left ws) c.in-Some-split_first.ensures.cases.0 chosen)
    (λ l low f g. c.split.ensures.fits s l low f g)
