use Rattle.std.proofs.Common.{◌≡◌, ◌<◌, ◌≤◌, ◌+◌, ◌∙◌, ◌⊎◌, inl, inr, ℕ, List, Option, Some, None, Bor, Vec, Global}
use Rattle.std.proofs.Common.{Bool, true, false}
use Rattle.std.proofs.Common.{length, take, get_or, sym, refl, ap, subst, arith, map}
use Rattle.std.specs.Prelude.{Any}
use Rattle.declared_features.specs.NameSets.{HasName, AddsNames}
use Rattle.std.specs.Option.{option_copied}
use Rattle.declared_features.specs.MissingEdges.{HasOnlyCondition}
use Rattle.declared_features.proofs.Growing.{grown_next, grown_end, grown_as}
use Rattle.declared_features.proofs.missing_edges.add_kept.Goals as goal

pub edges-preserved : goal.edges-preserved
edges-preserved c =
    let edges = c.args.node.now.dependencies in
    let below : c.edges.i < length edges.items = omega (arith, c.edges-test.true, c.len-i-end.ensures, edges.ok.0) in
    grown_next (HasName c.args.conditions.now) (HasName c.edges.conditions) (HasName c.add_name.new.names) edges.items
    c.edges.i c.index.result.now (λ edge q. HasOnlyCondition edge q) below c.index.ensures
    (grown_as (HasName c.edges.conditions) (HasName c.add_name.new.names)
    (λ q. option_copied c.only_condition.result ≡ Some q) (λ q. HasOnlyCondition c.index.result.now q)
    c.in_ok-add_name.ensures (λ q. (c.only_condition.ensures q).0) (λ q. (c.only_condition.ensures q).1))
    c.edges.invariant

pub returns : goal.returns
returns c =
    let edges = c.args.node.now.dependencies in
    let past : length edges.items ≤ c.edges.i = omega (arith, c.edges-test.false, c.len-i-end.ensures, edges.ok.0) in
    grown_end (HasName c.args.conditions.now) (HasName c.edges.conditions) edges.items c.edges.i
    (λ edge q. HasOnlyCondition edge q) past c.edges.invariant
