use Rattle.std.proofs.Common.{ap, ◌∙◌}
use Rattle.cargo_platform.proofs.ConditionFaults.{one_condition_fault}
use Rattle.cargo_platform.proofs.OneFault.{one_fault}
use Rattle.cargo_platform.proofs.laws.one_fault.Goals as goal

pub returns-clause-texts : goal.returns-clause-texts
returns-clause-texts c = λ g text e f p q. one_fault g text e f p q

pub returns-clause-conditions : goal.returns-clause-conditions
returns-clause-conditions c = λ text a b p q.
    let same = one_condition_fault text a.0 b.0 a.1 b.1 p q in
    ap (λ orig. (orig, a.1)) same.0 ∙ ap (λ fault. (b.0, fault)) same.1
