use Rattle.exact_answers.specs.Diagrams.{nodes_of}
use Rattle.exact_answers.proofs.Tables.{remembered}
use Rattle.exact_answers.proofs.goal_diagrams.table.Table.remember.Goals as goal

pub returns-then-at-len-clause-table : goal.returns-then-at-len-clause-table
returns-then-at-len-clause-table c =
    remembered (nodes_of c.args.self.now) c.args.self.now.joined.items c.args.at c.args.joined c.requires.table
    c.requires.joined
