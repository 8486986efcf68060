use Rattle.std.proofs.Common.{◌∙◌, List, ℕ, subst, string_bytes}
use Rattle.std.proofs.lemmas.Result.{IfOk-weaker}
use Rattle.platform_answers.specs.Reading.{IsGathered}
use Rattle.platform_answers.specs.Answering.{IsAnswer}
use Rattle.platform_answers.proofs.answering.answer_to.Goals as goal

pub returns-in-Whole : goal.returns-in-Whole
returns-in-Whole c =
    IfOk-weaker c.answer_bytes.result _
    (λ a. (bs : List ℕ) → IsGathered c.args.gathered bs → IsAnswer bs (string_bytes a.text) a.outcome)
    (λ a h bs g.
    let P : List ℕ → Type 0 = λ x. IsAnswer x (string_bytes a.text) a.outcome in
    let given = rw c.in-Whole.is at g in
    subst P (c.deref.ensures.value ∙ given.0) h) c.answer_bytes.ensures
