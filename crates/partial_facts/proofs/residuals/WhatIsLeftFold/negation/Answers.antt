use Rattle.std.proofs.Common.{◌∙◌, ap}
use Rattle.std.proofs.lemmas.Result.{IfOk-weaker}
use Rattle.partial_facts.specs.Residual.{negation}
use Rattle.partial_facts.proofs.Reducing.{negation_residual}
use Rattle.partial_facts.proofs.residuals.WhatIsLeftFold.negation.Goals as goal

pub returns : goal.returns
returns g c =
    let told = g.K.Knowledge.told c.args.self.now.known.now in
    IfOk-weaker c.negated.result _ _ (λ whole is e made. is ∙ ap negation made ∙ negation_residual told e)
    c.negated.ensures
