use Rattle.std.proofs.Common.{arith}
use Rattle.byte_graphs.specs.Documents.{HasDeepKind}
use Rattle.byte_graphs.proofs.Searching.{found_at, none_more, none_at_all}
use Rattle.byte_graphs.proofs.documents.has_deep_dependency.Goals as goal

pub returns-then-has_deep_kind-clause-deep : goal.returns-then-has_deep_kind-clause-deep
returns-then-has_deep_kind-clause-deep c is =
    let ds = c.args.node.now.dependencies in
    found_at HasDeepKind ds.items c.dependencies.i c.index.result.now
    (omega (arith, c.dependencies-test.true, c.len-i-end.ensures, ds.ok.0)) c.index.ensures
    (c.has_deep_kind.ensures.deep c.if-has_deep_kind.true)

pub dependencies-preserved : goal.dependencies-preserved
dependencies-preserved c =
    let ds = c.args.node.now.dependencies in
    none_more HasDeepKind ds.items c.dependencies.i c.index.result.now
    (omega (arith, c.dependencies-test.true, c.len-i-end.ensures, ds.ok.0)) c.index.ensures c.dependencies.invariant
    (c.has_deep_kind.ensures.shallow c.if-has_deep_kind.false)

pub returns-clause-shallow : goal.returns-clause-shallow
returns-clause-shallow c is =
    let ds = c.args.node.now.dependencies in
    none_at_all HasDeepKind ds.items c.dependencies.i
    (λ below. omega (arith, below, c.dependencies-test.false, c.len-i-end.ensures, ds.ok.0)) c.dependencies.invariant
