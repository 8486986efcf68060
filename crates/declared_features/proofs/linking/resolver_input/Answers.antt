use Rattle.std.proofs.Common.{◌≡◌, ◌<◌, ◌+◌, ◌∙◌, length, ℕ, ap, subst, arith}
use Rattle.std.proofs.Math.Path.{fun_ext}
use Rattle.declared_features.specs.Described.{IsDescribedAt, declared_indexes}
use Rattle.declared_features.specs.Members.{FeatureIndexes}
use Rattle.declared_features.specs.Inside.Names.{index_in}
use Rattle.declared_features.proofs.Describing.{described_more, described_grown}
use Rattle.declared_features.proofs.Placing.{length_push}
use Rattle.declared_features.proofs.linking.resolver_input.Goals as goal

pub nodes-init : goal.nodes-init
nodes-init c = (
  ap length c.new-packages.ensures.items,
  ap length c.new-edges.ensures.items,
  λ node below. absurd (omega (arith, below)),
)

pub nodes-preserved : goal.nodes-preserved
nodes-preserved c = (
  ap length c.in_ok-push.ensures.items ∙ length_push c.nodes.packages.items c.in_ok-package.package
      ∙ ap (λ (n : ℕ). n + 1) c.nodes.invariant.0,
  ap length c.in_ok-push-2.ensures.items ∙ length_push c.nodes.edges.items c.in_ok-package.its_edges
      ∙ ap (λ (n : ℕ). n + 1) c.nodes.invariant.1,
  described_more c.args.graph.now c.args.requested.now (index_in c.in_ok-names.names) c.nodes.packages.items
      c.push.new.self.items
      c.nodes.edges.items c.push-in-nodes.new.self.items c.in_ok-package.package c.in_ok-package.its_edges c.nodes.node
      c.in_ok-push.ensures.items c.in_ok-push-2.ensures.items c.nodes.invariant.0 c.nodes.invariant.1
      c.in_ok-package.ensures c.nodes.invariant.2,
)

pub returns-clause-nodes : goal.returns-clause-nodes
returns-clause-nodes c node below =
    let graph = c.args.graph.now in
    let units = graph.linked.now.packages in
    let new = c.add_activation_root.new.described in
    let names = c.in_ok-names.names in
    let kept = c.in_ok-add_activation_root.ensures.kept in
    let at : index_in names ≡ declared_indexes graph.declared.now =
    fun_ext (λ k. fun_ext (λ q. c.in_ok-names.ensures k q)) in
    let inside : node < c.nodes.node =
    omega (arith, below, c.nodes-test.false, c.len-node-end.ensures, units.ok.0) in
    subst (λ (at : FeatureIndexes). IsDescribedAt graph c.args.requested.now at new.packages.items new.edges.items
    node) at
    (described_grown graph c.args.requested.now (index_in names) c.nodes.packages.items new.packages.items
    c.nodes.edges.items
    new.edges.items
    kept.more kept.more_edges node kept.packages kept.edges (c.nodes.invariant.2 node inside))

pub returns-clause-activated : goal.returns-clause-activated
returns-clause-activated c =
    let units = c.args.graph.now.linked.now.packages in
    let end = c.nodes.auto.node-end in (
      c.nodes.packages.items,
      omega (arith, c.nodes.invariant.0, c.nodes-test.false, c.len-node-end.ensures, units.ok.0, end),
      c.in_ok-add_activation_root.ensures.activated,
    )
