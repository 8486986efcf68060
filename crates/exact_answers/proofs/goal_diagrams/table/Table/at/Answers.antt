use Rattle.std.proofs.Common.{◌-◌, arith}
use Rattle.exact_answers.proofs.Tables.{node-looked-up, node-missing}
use Rattle.exact_answers.proofs.goal_diagrams.table.Table.at.Goals as goal

pub returns-else-place-lt2-clause-node : goal.returns-else-place-lt2-clause-node
returns-else-place-lt2-clause-node c =
    node-looked-up c.args.self.now.nodes.items c.deref.result.now (c.args.place - 2) c.args.place c.get.result
    c.copied.result c.requires c.deref.ensures.value (omega arith) c.get.ensures.lookup c.copied.ensures

pub returns-else-place-lt2-clause-some : goal.returns-else-place-lt2-clause-some
returns-else-place-lt2-clause-some c = λ two inside.
    node-missing c.args.self.now.nodes.items c.deref.result.now (c.args.place - 2) c.args.place c.get.result
    c.copied.result c.deref.ensures.value (omega arith) c.get.ensures.lookup c.copied.ensures inside
