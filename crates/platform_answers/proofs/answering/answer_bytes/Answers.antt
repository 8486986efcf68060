use Rattle.std.proofs.Common.{◌≡◌, ℕ, List, subst, arith, inr, string_bytes}
use Rattle.std.specs.Prelude.{IfOk}
use Rattle.std.proofs.lemmas.Result.{IfOk-weaker}
use Rattle.platform_answers.specs.Lines.{lines_of}
use Rattle.platform_answers.specs.Answering.{IsAnswer, IsAnswerToLines}
use Rattle.platform_answers.proofs.answering.answer_bytes.Goals as goal

pub returns : goal.returns
returns c =
    let same : c.in-Ok.text.now ≡ c.args.bytes.now = c.in-Ok.ensures.cases.0 in
    let P : List ℕ
    → Type 0 = λ bs. IfOk c.answer_lines.result (λ a. IsAnswerToLines (lines_of bs) (string_bytes a.text) a.outcome) in
    IfOk-weaker c.answer_lines.result _ (λ a. IsAnswer c.args.bytes.now (string_bytes a.text) a.outcome)
    (λ a h. inr (inr (λ long. omega arith, c.in-Ok.ensures.cases.1, h))) (subst P same c.answer_lines.ensures)
