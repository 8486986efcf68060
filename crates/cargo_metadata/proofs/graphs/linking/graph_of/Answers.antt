use Rattle.std.proofs.Common.{◌<◌, length, get_or, refl, sym, ◌∙◌, ap, subst, arith}
use Rattle.std.specs.Prelude.{◌↔◌, Contains, IsTrue, IsSome}
use Rattle.std.proofs.lemmas.List.{length-map}
use Rattle.cargo_metadata.specs.declared.packages.Package.{Package as Described}
use Rattle.cargo_metadata.specs.declared.nodes.Node.{Node}
use Rattle.package_graphs.specs.declared.packages.Package.{Package}
use Rattle.cargo_metadata.specs.Ids.{node_ids, member_ids, id_at}
use Rattle.cargo_metadata.specs.Links.{AreSound, IsPackageOf}
use Rattle.cargo_metadata.specs.Refusals.{IsWrongAt}
use Rattle.cargo_metadata.specs.Indexes.{index_at}
use Rattle.cargo_metadata.specs.Inside.Finding.{Describes}
use Rattle.cargo_metadata.proofs.Indexing.{id_read, is_member, root_iff}
use Rattle.cargo_metadata.proofs.Adding.{at_any, before_more, pushed_more, pushed_count}
use Rattle.cargo_metadata.proofs.graphs.linking.graph_of.Goals as goal

pub nodes-init : goal.nodes-init
nodes-init c = record {
  count = ap length c.new-packages.ensures.items;
  sound = λ k n below. absurd (omega arith);
  each = λ k n d p below. absurd (omega arith);
}

pub returns-in-Err : goal.returns-in-Err
returns-in-Err c =
    let m = c.args.metadata.now in
    let i = c.nodes.i in
    let node = c.index-node.result.now in
    let ids = node_ids m.nodes.items in
    let below : i < length m.nodes.items = omega (arith, c.nodes-test.true, c.len-i-end.ensures, m.nodes.ok.0) in
    record {
      ids = c.requires.ids;
      members = c.requires.members.nodes;
      first = record {
        before = c.nodes.invariant.sound;
        inside = below;
        fault =
            at_any (λ n. IsWrongAt ids c.in-Err.j c.in-Err.wrong n) m.nodes.items i node below c.index-node.ensures
            (c.in-Err.ensures ids c.requires.nodes.found);
      };
    }

pub nodes-preserved : goal.nodes-preserved
nodes-preserved c =
    let m = c.args.metadata.now in
    let i = c.nodes.i in
    let node = c.index-node.result.now in
    let d : Described = c.index.result.now in
    let ds = c.args.described.items in
    let ids = node_ids m.nodes.items in
    let members = member_ids m.members.items in
    let below : i < length m.nodes.items = omega (arith, c.nodes-test.true, c.len-i-end.ensures, m.nodes.ok.0) in
    let inside : i < length ds = omega (arith, below, c.requires.nodes.described.count) in
    let is = id_read (λ n. n.id.now) m.nodes.items i node below c.index-node.ensures in
    let described : Describes m (id_at ids i) d =
    subst (λ (x : Described). Describes m (id_at ids i) x) (sym c.index.ensures)
    (c.requires.nodes.described.each i d below) in
    let unit : Package =
    record { is_root = c.is_some.result; is_macro = d.is_macro; dependencies = c.in-Ok.dependencies } in
    let root : IsTrue c.is_some.result ↔ Contains members node.id.now =
    root_iff c.find.result c.is_some.result (Contains members node.id.now) c.is_some.ensures
    (λ h. c.requires.members.sound node.id.now (subst IsSome c.find.ensures h))
    (λ h.
    subst IsSome (sym c.find.ensures)
    (is_member (index_at c.args.members.now) members node.id.now (λ k less. c.requires.members.complete k (omega (
      arith,
      less,
      length-map m.members.items (λ b. b.now),
    ))) h)) in
    let this : IsPackageOf m node d unit = record {
      described = described.described;
      named = described.named ∙ sym is;
      root = root;
      macro = refl;
      edges = c.in-Ok.ensures ids c.requires.nodes.found;
    } in
    let here : (n : Node) (x : Described) → IsPackageOf m (get_or m.nodes.items i n) (get_or ds i x) unit =
    λ n.
    at_any (λ (x : Described). IsPackageOf m (get_or m.nodes.items i n) x unit) ds i d inside c.index.ensures
    (at_any (λ (y : Node). IsPackageOf m y d unit) m.nodes.items i node below c.index-node.ensures this n) in
    record {
      count = pushed_count c.nodes.packages.items c.push.new.self.items unit i c.nodes.invariant.count
          c.in_default.ensures.items;
      sound =
          before_more (λ (n : Node). AreSound ids n) m.nodes.items i node below c.index-node.ensures
          c.nodes.invariant.sound this.edges.sound;
      each = λ k n x p more.
          pushed_more (λ k p. (n : Node) (x : Described) → IsPackageOf m (get_or m.nodes.items k n) (get_or ds k x) p)
          c.nodes.packages.items c.push.new.self.items unit i c.nodes.invariant.count c.in_default.ensures.items
          (λ k p less n x. c.nodes.invariant.each k n x p less) here k p more n x;
    }
