use Rattle.std.proofs.Common.{inr, string_bytes}
use Rattle.std.proofs.lemmas.Result.{IfOk-weaker}
use Rattle.cargo_platform.specs.Errors.{orig_of, fault_in}
use Rattle.callers.specs.Reports.{IsReport}
use Rattle.callers.proofs.conditions.linter.lint.Goals as goal

pub returns-in-Err-Parse : goal.returns-in-Err-Parse
returns-in-Err-Parse c =
    let error = c.in-Err-Parse.error in
    let read = rw c.in-Err-Parse.field-0-is at c.in-Err-Parse.ensures in
    IfOk-weaker c.format.result _ (λ report. IsReport c.args.manifest.now c.args.key.now (string_bytes report))
    (λ report h. inr (orig_of error, fault_in error, read.fault, h)) c.format.ensures.ok
