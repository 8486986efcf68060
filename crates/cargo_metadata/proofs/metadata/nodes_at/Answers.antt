use Rattle.serde_json.specs.View.{view}
use Rattle.cargo_metadata.specs.Nodes.{IsNode}
use Rattle.cargo_metadata.proofs.Elements.{rows_none, rows_more, first_at, wrong_first}
use Rattle.cargo_metadata.proofs.metadata.nodes_at.Goals as goal

pub nodes-init : goal.nodes-init
nodes-init c = rows_none IsNode c.new-nodes.result.items c.new-nodes.ensures.items

pub nodes-preserved : goal.nodes-preserved
nodes-preserved c =
    rows_more IsNode c.in-Ok.items.now c.nodes.i c.index-items-i.result c.nodes.nodes.items c.push.new.self.items
    c.in-Ok-node_of.node c.nodes-test.true c.index-items-i.is c.in_default.ensures.items
    c.nodes.invariant c.in-Ok-node_of.ensures

pub returns-in-Err : goal.returns-in-Err
returns-in-Err c =
    let wrong = c.in-Err.ensures in
    wrong_first _ _ _ (view c.args.resolve.now) c.in-Err.wrong wrong.0 wrong.1

pub returns-in-Err-node_of : goal.returns-in-Err-node_of
returns-in-Err-node_of c =
    first_at IsNode _ _ (view c.args.resolve.now) c.in-Ok.items.now c.nodes.i c.index-items-i.result
    c.nodes.nodes.items c.in-Ok.ensures c.nodes-test.true c.index-items-i.is c.nodes.invariant c.in-Err-node_of.ensures
