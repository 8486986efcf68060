use Rattle.std.proofs.Common.{◌<◌, length, sym, subst, arith}
use Rattle.cargo_metadata.specs.Indexes.{index_at}
use Rattle.cargo_metadata.specs.Refusals.{IsInDependency}
use Rattle.cargo_metadata.specs.declared.graphs.refusals.EdgeError.{EdgeError}
use Rattle.cargo_metadata.proofs.Indexing.{found_contains, absent}
use Rattle.cargo_metadata.proofs.Adding.{rows_none, adds_more, adds_all, held_spelled, refused_at}
use Rattle.cargo_metadata.proofs.graphs.edges.add_kinds.Goals as goal

pub kinds-init : goal.kinds-init
kinds-init c ids found = rows_none ids c.args.written.now.on.now c.args.written.now.kinds.items c.args.edges.now.items

pub returns-in_default : goal.returns-in_default
returns-in_default c ids found =
    absent (index_at c.args.nodes.now) ids c.args.written.now.on.now found (sym c.in_default.ensures)

pub returns-in-Err : goal.returns-in-Err
returns-in-Err c ids found =
    let d = c.args.written.now in
    let i = c.kinds.i in
    let row = c.index-row.result.now in
    let below : i < length d.kinds.items = omega (arith, c.kinds-test.true, c.len-i-end.ensures, d.kinds.ok.0) in
    subst (λ (wrong : EdgeError). IsInDependency ids wrong d) (sym c.wrong_at.ensures)
    (refused_at ids d i row c.in-Err.no_set below c.index-row.ensures
    (found_contains (index_at c.args.nodes.now) ids d.on.now c.in-Some.to found (sym c.in-Some.ensures))
    (c.kinds.invariant ids found).spelled c.in-Err.ensures)

pub kinds-preserved : goal.kinds-preserved
kinds-preserved c ids found =
    let d = c.args.written.now in
    let i = c.kinds.i in
    let row = c.index-row.result.now in
    let below : i < length d.kinds.items = omega (arith, c.kinds-test.true, c.len-i-end.ensures, d.kinds.ok.0) in
    let it = found.sound d.on.now c.in-Some.to (sym c.in-Some.ensures) in
    adds_more ids d.on.now d.kinds.items i row c.args.edges.now.items c.kinds.edges.items c.push.new.self.items _ below
    c.index-row.ensures c.in_default-push.ensures.items (c.kinds.invariant ids found)
    (held_spelled row.condition c.in-Ok.holds c.in-Ok.ensures)
    (record { inside = it.0; names = it.1; kind = c.kind_of.ensures; holds = c.in-Ok.ensures })

pub returns : goal.returns
returns c ids found =
    let d = c.args.written.now in
    adds_all ids d c.kinds.i c.args.edges.now.items c.kinds.edges.items
    (found_contains (index_at c.args.nodes.now) ids d.on.now c.in-Some.to found (sym c.in-Some.ensures))
    (omega (arith, c.kinds-test.false, c.len-i-end.ensures, d.kinds.ok.0)) (c.kinds.invariant ids found)
