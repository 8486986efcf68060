use Rattle.std.proofs.Common.{IfSome, subst}
use Rattle.std.proofs.lemmas.Result.{IfOk-weaker}
use Rattle.exact_answers.specs.Inside.Ahead.{IsOutlook}
use Rattle.exact_answers.proofs.search.step_ahead.Goals as goal

pub step-requires : goal.step-requires
step-requires c = (
  c.args.goals.now,
  subst (λ o. IfSome o (λ o. IsOutlook o c.args.goals.now)) c.in-Some.is c.requires,
)

pub returns-in-Some : goal.returns-in-Some
returns-in-Some c =
    let is : IsOutlook c.in-Some.outlook c.args.goals.now =
    subst (λ o. IfSome o (λ o. IsOutlook o c.args.goals.now)) c.in-Some.is c.requires in
    IfOk-weaker c.step.result _ _ (λ step says. says c.args.goals.now is) c.step.ensures
