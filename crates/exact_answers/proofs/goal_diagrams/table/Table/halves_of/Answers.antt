use Rattle.exact_answers.specs.Diagrams.{nodes_of}
use Rattle.exact_answers.proofs.Tables.{halves-first, halves-second, halves-both}
use Rattle.exact_answers.proofs.goal_diagrams.table.Table.halves_of.Goals as goal
use Rattle.std.proofs.Common.{arith}

pub returns-then-left-right : goal.returns-then-left-right
returns-then-left-right c =
    halves-first (nodes_of c.args.self.now) c.args.one c.args.other c.args.first c.args.second c.requires.first
    c.requires.second

pub returns-then-right-left : goal.returns-then-right-left
returns-then-right-left c =
    halves-second (nodes_of c.args.self.now) c.args.one c.args.other c.args.first c.args.second c.requires.first
    c.requires.second

pub returns-else-right-left : goal.returns-else-right-left
returns-else-right-left c =
    halves-both (nodes_of c.args.self.now) c.args.one c.args.other c.args.first c.args.second c.requires.first
    c.requires.second (omega arith)
