use Rattle.std.proofs.Common.{refl}
use Rattle.exact_answers.proofs.outlook.literal.Goals as goal

pub returns : goal.returns
returns c = λ table l low. ((λ is. c.all_or_none.ensures l low is), refl)
