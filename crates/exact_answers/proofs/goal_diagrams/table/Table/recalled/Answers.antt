use Rattle.std.proofs.Common.{arith}
use Rattle.exact_answers.specs.Diagrams.{nodes_of}
use Rattle.exact_answers.proofs.Tables.{recalled-join}
use Rattle.exact_answers.proofs.goal_diagrams.table.Table.recalled.Goals as goal

pub returns-then-is_join : goal.returns-then-is_join
returns-then-is_join c =
    recalled-join (nodes_of c.args.self.now) c.args.self.now.joined.items c.args.at c.index-joined.result.now
    c.args.each c.args.one c.args.other c.requires (omega (arith, c.args.self.now.joined.ok.0)) c.index-joined.ensures
    (c.is_join.ensures (cc))
