use Rattle.std.proofs.Common.{◌<◌, length, arith}
use Rattle.cargo_metadata.specs.Refusals.{IsInDependency}
use Rattle.cargo_metadata.proofs.Adding.{at_any, edges_none, edges_more, edges_all}
use Rattle.cargo_metadata.proofs.graphs.edges.edges_of.Goals as goal

pub dependencies-init : goal.dependencies-init
dependencies-init c ids found =
    edges_none ids c.args.node.now.dependencies.items c.new-edges.result.items c.new-edges.ensures.items

pub returns-in-Err : goal.returns-in-Err
returns-in-Err c ids found =
    let ds = c.args.node.now.dependencies in
    let j = c.dependencies.j in
    let below : j < length ds.items = omega (arith, c.dependencies-test.true, c.len-j-end.ensures, ds.ok.0) in
    record {
      before = (c.dependencies.invariant ids found).sound;
      inside = below;
      fault = at_any (λ d. IsInDependency ids c.in-Err.wrong d) ds.items j c.index.result.now below c.index.ensures
          (c.in-Err.ensures ids found);
    }

pub dependencies-preserved : goal.dependencies-preserved
dependencies-preserved c ids found =
    let ds = c.args.node.now.dependencies in
    let j = c.dependencies.j in
    let below : j < length ds.items = omega (arith, c.dependencies-test.true, c.len-j-end.ensures, ds.ok.0) in
    edges_more ids ds.items j c.index.result.now c.dependencies.edges.items c.add_kinds.new.edges.items below
    c.index.ensures (c.in_default.ensures ids found) (c.dependencies.invariant ids found)

pub returns : goal.returns
returns c ids found =
    edges_all ids c.args.node.now c.dependencies.j c.dependencies.edges.items
    (omega (arith, c.dependencies-test.false, c.len-j-end.ensures, c.args.node.now.dependencies.ok.0))
    (c.dependencies.invariant ids found)
