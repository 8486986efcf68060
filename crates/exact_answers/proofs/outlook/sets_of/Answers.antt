use Rattle.exact_answers.proofs.Ahead.{with_it, without_it}
use Rattle.exact_answers.proofs.outlook.sets_of.Goals as goal

pub returns-then-wanted : goal.returns-then-wanted
returns-then-wanted c = λ s l fits is. with_it s l c.args.sets.now c.args.wanted c.if-wanted.true fits is

pub returns-else-wanted : goal.returns-else-wanted
returns-else-wanted c = λ s l fits is. without_it s l c.args.sets.now c.args.wanted c.if-wanted.false fits is
