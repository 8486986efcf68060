use Rattle.std.proofs.Common.{◌≡◌, ◌<◌, ◌≤◌, ◌+◌, ◌∙◌, ◌⊎◌, inl, inr, ℕ, List, Option, Some, None, Bor, Vec, Global}
use Rattle.std.proofs.Common.{Bool, true, false}
use Rattle.std.proofs.Common.{length, take, get_or, sym, refl, ap, subst, arith, map}
use Rattle.std.specs.Prelude.{Any, IfNone, IfSome}
use Rattle.declared_features.specs.Manifests.{dependencies_at}
use Rattle.declared_features.specs.declared.declaring.DeclaredGraph.{DeclaredGraph}
use Rattle.declared_features.specs.declared.manifests.DeclaredDependency.{DeclaredDependency}
use Rattle.cargo_features.specs.Inside.Numbered.{AreNumbers}
use Rattle.declared_features.specs.MissingEdges.{IsNewlyEnabled, IsFirst}
use Rattle.declared_features.proofs.First.{none_below}
use Rattle.declared_features.proofs.missing_edges.first_missing_edge.Goals as goal

pub nodes-preserved : goal.nodes-preserved
nodes-preserved c numbers =
    let graph = c.args.graph.now in
    let searched = c.in_ok-searched.searched.graph in
    let resolved = c.args.resolved.now in
    let requested = c.args.requested.now in
    let P = IsNewlyEnabled graph resolved requested in
    let there : ¬ Any (IsNewlyEnabled searched resolved requested c.nodes.node)
    (dependencies_at searched.declared.now c.nodes.node) =
    (subst (λ (o : Option (Bor DeclaredDependency)). IfNone o
    (AreNumbers resolved.packages.items resolved.found.numbers
    → ¬ Any (IsNewlyEnabled searched resolved requested c.nodes.node)
    (dependencies_at searched.declared.now c.nodes.node))) c.in_default.is c.in_ok-declared.ensures.none) numbers in
    let none : ¬ Any (P c.nodes.node) (dependencies_at graph.declared.now c.nodes.node) =
    subst (λ (g : DeclaredGraph). ¬ Any (IsNewlyEnabled g resolved requested c.nodes.node)
    (dependencies_at g.declared.now c.nodes.node)) c.in_ok-searched.ensures.graph there in
    none_below (λ k. Any (P k) (dependencies_at graph.declared.now k)) c.nodes.node (c.nodes.invariant numbers) none

pub returns-in-Some-clause-found : goal.returns-in-Some-clause-found
returns-in-Some-clause-found c numbers =
    let graph = c.args.graph.now in
    let searched = c.in_ok-searched.searched.graph in
    let resolved = c.args.resolved.now in
    let requested = c.args.requested.now in
    let nodes = graph.metadata.now.nodes in
    let there : IsFirst (IsNewlyEnabled searched resolved requested c.nodes.node)
    (dependencies_at searched.declared.now c.nodes.node) c.in-Some.declared.now =
    (subst (λ (o : Option (Bor DeclaredDependency)). IfSome o
    (λ d. AreNumbers resolved.packages.items resolved.found.numbers
    → IsFirst (IsNewlyEnabled searched resolved requested c.nodes.node)
    (dependencies_at searched.declared.now c.nodes.node) d.now)) c.in-Some.is c.in_ok-declared.ensures.found) numbers in
    record {
      node = omega (arith, c.nodes-test.true, c.len-node-end.ensures, nodes.ok.0);
      declared =
          subst (λ (g : DeclaredGraph). IsFirst (IsNewlyEnabled g resolved requested c.nodes.node)
          (dependencies_at g.declared.now c.nodes.node) c.in-Some.declared.now) c.in_ok-searched.ensures.graph there;
      earlier = c.nodes.invariant numbers;
    }

pub returns-clause-none : goal.returns-clause-none
returns-clause-none c numbers k below =
    let nodes = c.args.graph.now.metadata.now.nodes in
    c.nodes.invariant numbers k (omega (arith, below, c.nodes-test.false, c.len-node-end.ensures, nodes.ok.0))
