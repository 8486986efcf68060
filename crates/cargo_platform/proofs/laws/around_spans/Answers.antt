use Rattle.cargo_platform.proofs.ConditionSpans.{behind_name}
use Rattle.cargo_platform.proofs.AroundSpans.{surplus_at, behind_prefix, cut_before}
use Rattle.cargo_platform.proofs.laws.around_spans.Goals as goal

pub returns-clause-surplus : goal.returns-clause-surplus
returns-clause-surplus c = λ g text rest. surplus_at g text rest

pub returns-clause-prefix : goal.returns-clause-prefix
returns-clause-prefix c = λ g text fault r. behind_prefix g text fault r

pub returns-clause-before : goal.returns-clause-before
returns-clause-before c = λ g text fault r. cut_before g text fault r

pub returns-clause-name : goal.returns-clause-name
returns-clause-name c = λ text span. behind_name text span
