use Rattle.std.proofs.Common.{string_bytes}
use Rattle.std.proofs.lemmas.Result.{IfOk-weaker}
use Rattle.cargo_platform.proofs.platforms.target_error.Goals as goal

pub returns-clause-why : goal.returns-clause-why
returns-clause-why c =
    IfOk-weaker c.with_span.result _ _
    (λ e is. (string_bytes c.in_ok-message.message, c.in_ok-message.ensures, is)) c.with_span.ensures.why
