use Rattle.exact_answers.proofs.Ahead.{bit_of_all}
use Rattle.exact_answers.proofs.outlook.unsplit.Goals as goal

pub returns-clause-fits : goal.returns-clause-fits
returns-clause-fits c = λ s l low. ((λ is. bit_of_all l low), (λ out. bit_of_all l low), tt)
