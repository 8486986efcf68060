use Rattle.exact_answers.specs.Diagrams.{nodes_of}
use Rattle.exact_answers.proofs.Tables.{none-made, same-node}
use Rattle.exact_answers.proofs.goal_diagrams.table.Table.node.Goals as goal

pub returns-then-without-with-clause-made : goal.returns-then-without-with-clause-made
returns-then-without-with-clause-made c = none-made c.args.self.now c.args.with c.requires.table c.requires.with

pub returns-then-without-with-clause-means : goal.returns-then-without-with-clause-means
returns-then-without-with-clause-means c = λ holds.
    same-node (holds c.args.number) holds (nodes_of c.args.self.now) c.args.without c.args.with
    c.if-without-with.true

pub returns-in-Some-clause-made : goal.returns-in-Some-clause-made
returns-in-Some-clause-made c = none-made c.args.self.now c.in-Some.place c.requires.table c.in-Some.ensures.inside

pub returns-in-Some-clause-means : goal.returns-in-Some-clause-means
returns-in-Some-clause-means c = c.in-Some.ensures.means
