use Rattle.exact_answers.proofs.Ahead.{bit_of_all}
use Rattle.exact_answers.proofs.outlook.all_or_none.Goals as goal

pub returns-then-all : goal.returns-then-all
returns-then-all c = λ l low is. bit_of_all l low
