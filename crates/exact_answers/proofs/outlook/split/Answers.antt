use Rattle.exact_answers.proofs.Ahead.{bit_of_others}
use Rattle.exact_answers.proofs.outlook.split.Goals as goal

pub returns-clause-fits : goal.returns-clause-fits
returns-clause-fits c = λ s l low f g. (f, (λ out. bit_of_others c.args.pattern l low (g out)), tt)
