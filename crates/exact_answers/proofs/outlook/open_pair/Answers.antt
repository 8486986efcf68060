use Rattle.exact_answers.proofs.Numbers.{words_at, open_told}
use Rattle.exact_answers.proofs.outlook.open_pair.Goals as goal

pub returns-clause-stands : goal.returns-clause-stands
returns-clause-stands c =
    words_at c.args.table.now c.args.number c.index-table-number.result c.requires.short c.index-table-number.is

pub returns-clause-open : goal.returns-clause-open
returns-clause-open c = λ k ds told.
    open_told k ds c.args.table.now c.args.number c.index-table-number.result c.index-table-number.is c.requires.untold
    told
