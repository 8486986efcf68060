use Rattle.std.proofs.Common.{◌≡◌, ◌<◌, ◌≤◌, ◌+◌, ◌∙◌, ◌⊎◌, inl, inr, ℕ, List, Option, Some, None, Bor, Vec, Global}
use Rattle.std.proofs.Common.{Bool, true, false}
use Rattle.std.proofs.Common.{length, take, get_or, sym, refl, ap, subst, arith, map}
use Rattle.std.specs.Prelude.{Any, IfNone}
use Rattle.declared_features.specs.Manifests.{dependencies_at}
use Rattle.declared_features.specs.declared.declaring.DeclaredGraph.{DeclaredGraph}
use Rattle.declared_features.specs.declared.manifests.DeclaredDependency.{DeclaredDependency}
use Rattle.declared_features.specs.MissingEdges.{IsFilteredOut}
use Rattle.declared_features.proofs.First.{none_below}
use Rattle.declared_features.proofs.missing_edges.first_filtered_out.Goals as goal

pub nodes-preserved : goal.nodes-preserved
nodes-preserved c =
    let graph = c.args.graph.now in
    none_below (λ k. Any (IsFilteredOut graph k) (dependencies_at graph.declared.now k)) c.nodes.node c.nodes.invariant
    (subst (λ (g : DeclaredGraph). ¬ Any (IsFilteredOut g c.nodes.node) (dependencies_at g.declared.now c.nodes.node))
    c.in_ok-searched.ensures.graph
    (subst (λ (o : Option (Bor DeclaredDependency)). IfNone o
    (¬ Any (IsFilteredOut c.in_ok-searched.searched.graph c.nodes.node)
    (dependencies_at c.in_ok-searched.searched.graph.declared.now c.nodes.node))) c.in_default.is
    c.in_ok-declared.ensures.none))

pub returns-clause-none : goal.returns-clause-none
returns-clause-none c k below =
    let nodes = c.args.graph.now.metadata.now.nodes in
    c.nodes.invariant k (omega (arith, below, c.nodes-test.false, c.len-node-end.ensures, nodes.ok.0))
