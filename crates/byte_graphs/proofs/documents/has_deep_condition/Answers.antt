use Rattle.std.proofs.Common.{arith}
use Rattle.byte_graphs.specs.Documents.{HasDeepDependency}
use Rattle.byte_graphs.proofs.Searching.{found_at, none_more, none_at_all}
use Rattle.byte_graphs.proofs.documents.has_deep_condition.Goals as goal

pub returns-then-has_deep_dependency-clause-deep : goal.returns-then-has_deep_dependency-clause-deep
returns-then-has_deep_dependency-clause-deep c is =
    let ns = c.args.metadata.now.nodes in
    found_at HasDeepDependency ns.items c.nodes.i c.index.result.now
    (omega (arith, c.nodes-test.true, c.len-i-end.ensures, ns.ok.0)) c.index.ensures
    (c.has_deep_dependency.ensures.deep c.if-has_deep_dependency.true)

pub nodes-preserved : goal.nodes-preserved
nodes-preserved c =
    let ns = c.args.metadata.now.nodes in
    none_more HasDeepDependency ns.items c.nodes.i c.index.result.now
    (omega (arith, c.nodes-test.true, c.len-i-end.ensures, ns.ok.0)) c.index.ensures c.nodes.invariant
    (c.has_deep_dependency.ensures.shallow c.if-has_deep_dependency.false)

pub returns-clause-shallow : goal.returns-clause-shallow
returns-clause-shallow c is =
    let ns = c.args.metadata.now.nodes in
    none_at_all HasDeepDependency ns.items c.nodes.i
    (λ below. omega (arith, below, c.nodes-test.false, c.len-i-end.ensures, ns.ok.0)) c.nodes.invariant
