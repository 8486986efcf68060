use Rattle.platform_answers.proofs.OneAnswer.{one_answer}
use Rattle.platform_answers.proofs.SomeAnswer.{some_answer}
use Rattle.platform_answers.proofs.laws.one_answer.Goals as goal

pub returns : goal.returns
returns c = record { some = some_answer; only = one_answer }
