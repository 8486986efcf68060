use Rattle.std.proofs.Common.{◌≡◌, ◌<◌, ◌≤◌, ◌+◌, ◌∙◌, ◌⊎◌, inl, inr, ℕ, List, Option, Some, None, Bor, Vec, Global}
use Rattle.std.proofs.Common.{Bool, true, false}
use Rattle.std.proofs.Common.{length, take, get_or, sym, refl, ap, subst, arith, map}
use Rattle.std.specs.Prelude.{Any}
use Rattle.declared_features.specs.NameSets.{HasName, AddsNames}
use Rattle.declared_features.specs.MissingEdges.{HasOnlyCondition, IsKept}
use Rattle.declared_features.proofs.Growing.{grown_next, grown_end, just_names}
use Rattle.declared_features.proofs.missing_edges.kept_conditions.Goals as goal

pub nodes-preserved : goal.nodes-preserved
nodes-preserved c =
    let nodes = c.args.metadata.now.nodes in
    let below : c.nodes.i < length nodes.items = omega (arith, c.nodes-test.true, c.len-i-end.ensures, nodes.ok.0) in
    grown_next (HasName c.new-conditions.result) (HasName c.nodes.conditions) (HasName c.add_kept.new.conditions)
    nodes.items c.nodes.i c.index.result.now
    (λ node q. Any (λ edge. HasOnlyCondition edge q) node.dependencies.items) below c.index.ensures
    c.in_ok-add_kept.ensures c.nodes.invariant

pub returns : goal.returns
returns c =
    let nodes = c.args.metadata.now.nodes in
    let past : length nodes.items ≤ c.nodes.i = omega (arith, c.nodes-test.false, c.len-i-end.ensures, nodes.ok.0) in
    just_names c.new-conditions.result c.nodes.conditions (IsKept c.args.metadata.now) c.new-conditions.ensures.empty
    (grown_end (HasName c.new-conditions.result) (HasName c.nodes.conditions) nodes.items c.nodes.i
    (λ node q. Any (λ edge. HasOnlyCondition edge q) node.dependencies.items) past c.nodes.invariant)
