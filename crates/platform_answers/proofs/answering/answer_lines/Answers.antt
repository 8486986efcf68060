use Rattle.std.proofs.Common.{inr, string_bytes}
use Rattle.std.proofs.lemmas.Result.{IfOk-weaker}
use Rattle.cargo_platform.specs.Errors.{orig_of, fault_in}
use Rattle.platform_answers.specs.Lines.{lines_of}
use Rattle.platform_answers.specs.Answering.{IsAnswerToLines}
use Rattle.platform_answers.proofs.answering.answer_lines.Goals as goal

pub returns-in-Err-Line : goal.returns-in-Err-Line
returns-in-Err-Line c =
    let lines = lines_of c.args.text.now in
    let error = c.in-Err-Line.error in
    let refused = rw c.in-Err-Line.field-0-is at c.in-Err-Line.ensures.refused in
    IfOk-weaker c.refuse_line.result _ (λ a. IsAnswerToLines lines (string_bytes a.text) a.outcome)
    (λ a h. inr (c.in-Err-Line.number, orig_of error, fault_in error, refused.0, refused.1, h)) c.refuse_line.ensures
