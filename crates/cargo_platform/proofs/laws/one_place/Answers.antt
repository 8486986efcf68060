use Rattle.cargo_platform.proofs.ConditionFaults.{one_condition_fault}
use Rattle.cargo_platform.proofs.ConditionSpans.{without_span, one_condition_span}
use Rattle.cargo_platform.proofs.OneFault.{one_fault}
use Rattle.cargo_platform.proofs.Spans.{one_span}
use Rattle.cargo_platform.proofs.laws.one_place.Goals as goal

pub returns-clause-texts : goal.returns-clause-texts
returns-clause-texts c = λ g text a b p q.
    λ i. (one_fault g text a.0 b.0 p.0 q.0 i, one_span g text a.0 b.0 a.1 b.1 p q i)

pub returns-clause-conditions : goal.returns-clause-conditions
returns-clause-conditions c = λ text a b p q.
    let same = one_condition_fault text a.0 b.0 a.1.0 b.1.0 (without_span text a.0 a.1.0 a.1.1 p)
    (without_span text b.0 b.1.0 b.1.1 q) in
    let span = one_condition_span text a.0 b.0 a.1.0 b.1.0 a.1.1 b.1.1 p q in
    λ i. (same.0 i, (same.1 i, span i))
