use Rattle.std.proofs.Common.{subst}
use Rattle.byte_graphs.specs.Documents.{IsUnusable}
use Rattle.byte_graphs.specs.Inside.Answering.{IsAnswer}
use Rattle.byte_graphs.proofs.package_lines.Goals as goal

pub returns-in-Ok-Reason-clause-refused : goal.returns-in-Ok-Reason-clause-refused
returns-in-Ok-Reason-clause-refused c =
    let text = c.in-Ok.document.now in
    let answer = subst (λ answer. IsAnswer text answer) c.in-Ok-Reason.field-0-is c.in-Ok-Reason.ensures in
    λ is_refused. subst IsUnusable c.in-Ok.ensures.cases.0 answer
