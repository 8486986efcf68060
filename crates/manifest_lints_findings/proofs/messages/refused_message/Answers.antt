use Rattle.std.proofs.Common.{string_bytes}
use Rattle.std.proofs.lemmas.Result.{IfOk-weaker}
use Rattle.manifest_lints_findings.proofs.messages.refused_message.Goals as goal

pub returns : goal.returns
returns c =
    IfOk-weaker c.format.result _ _
    (λ message text. (string_bytes c.in_ok-fault.fault, text, c.in_ok-fault.ensures)) c.format.ensures.ok
