use Rattle.std.proofs.Common.{◌≡◌, ◌<◌, ◌≤◌, length, List, Option, Some, take, ◌++◌, sym, subst, refl, ap, inl, inr}
use Rattle.std.proofs.Common.{arith}
use Rattle.std.specs.Prelude.{slice_get}
use Rattle.std.proofs.lemmas.List.{take_all}
use Rattle.std.proofs.lemmas.Option.{slice_get_past, slice_get_read}
use Rattle.cargo_metadata.specs.declared.nodes.Node.{Node}
use Rattle.cargo_metadata.specs.declared.nodes.Dependency.{Dependency as Edge}
use Rattle.package_graphs.specs.declared.packages.Dependency.{Dependency as LinkedEdge}
use Rattle.package_graphs.specs.declared.packages.Package.{Package as Unit}
use Rattle.declared_features.specs.Rows.{EdgeKind, kinds_by, kinds_of, kinds_in, links_in, kinds_at, links_at}
use Rattle.declared_features.specs.Rows.{AreRowsOf}
use Rattle.declared_features.proofs.Placing.{rows_none, edges_more}
use Rattle.declared_features.proofs.declaring.dependency_rows.Goals as goal

pub returns-then-node-len : goal.returns-then-node-len
returns-then-node-len c =
    let nodes = c.args.metadata.now.nodes in
    let past : length nodes.items ≤ c.args.node = omega (arith, c.if-node-len.true, c.len.ensures, nodes.ok.0) in
    rows_none (kinds_at c.args.metadata.now c.args.node) (links_at c.args.linked.now c.args.node)
    c.new-rows.result.items c.new-rows.ensures.items
    (inl (ap (λ (o : Option Node). kinds_in o) (slice_get_past nodes.items c.args.node past)))

pub returns-then-node-len-2 : goal.returns-then-node-len-2
returns-then-node-len-2 c =
    let units = c.args.linked.now.packages in
    let past : length units.items ≤ c.args.node = omega (arith, c.if-node-len-2.true, c.len-2.ensures, units.ok.0) in
    rows_none (kinds_at c.args.metadata.now c.args.node) (links_at c.args.linked.now c.args.node)
    c.new-rows.result.items c.new-rows.ensures.items
    (inr (ap (λ (o : Option Unit). links_in o) (slice_get_past units.items c.args.node past)))

pub edges-init : goal.edges-init
edges-init c =
    rows_none (kinds_of (take 0 c.index-written.result.now.dependencies.items))
    c.index-unit.result.now.dependencies.items c.new-rows.result.items c.new-rows.ensures.items (inl refl)

pub edges-preserved : goal.edges-preserved
edges-preserved c =
    let edges = c.index-written.result.now.dependencies in
    let links = c.index-unit.result.now.dependencies.items in
    let i = c.edges.i in
    let below : i < length edges.items = omega (arith, c.edges-test.true, c.len-i-end.ensures, edges.ok.0) in
    let start =
    subst (λ (ls : List LinkedEdge). AreRowsOf (kinds_of (take i edges.items)) ls c.edges.rows.items)
    (sym c.deref.ensures.value) c.edges.invariant in
    subst (λ (ks : List EdgeKind). AreRowsOf ks links c.push_rows.new.rows.items)
    (sym (edges_more edges.items i c.index.result.now below c.index.ensures))
    (subst (λ (ls : List LinkedEdge). AreRowsOf (kinds_of (take i edges.items) ++ kinds_by c.index.result.now) ls
    c.push_rows.new.rows.items) c.deref.ensures.value
    (c.in_ok-push_rows.ensures (kinds_of (take i edges.items)) start))

pub returns : goal.returns
returns c =
    let nodes = c.args.metadata.now.nodes in
    let units = c.args.linked.now.packages in
    let written = c.index-written.result.now in
    let unit = c.index-unit.result.now in
    let node = c.args.node in
    let inside : node < length nodes.items = omega (arith, c.if-node-len.false, c.len.ensures, nodes.ok.0) in
    let within : node < length units.items = omega (arith, c.if-node-len-2.false, c.len-2.ensures, units.ok.0) in
    let past : length written.dependencies.items ≤ c.edges.i =
    omega (arith, c.edges-test.false, c.len-i-end.ensures, written.dependencies.ok.0) in
    let node_at : slice_get nodes.items node ≡ Some written =
    slice_get_read nodes.items (length nodes.items) node written refl inside c.index-written.ensures in
    let unit_at : slice_get units.items node ≡ Some unit =
    slice_get_read units.items (length units.items) node unit refl within c.index-unit.ensures in
    subst (λ (o : Option Node). AreRowsOf (kinds_in o) (links_at c.args.linked.now node) c.edges.rows.items)
    (sym node_at)
    (subst (λ (o : Option Unit). AreRowsOf (kinds_of written.dependencies.items) (links_in o) c.edges.rows.items)
    (sym unit_at)
    (subst (λ (es : List Edge). AreRowsOf (kinds_of es) unit.dependencies.items c.edges.rows.items)
    (take_all c.edges.i written.dependencies.items past) c.edges.invariant))
