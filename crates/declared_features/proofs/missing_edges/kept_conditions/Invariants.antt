use Rattle.std.proofs.Common.{take}
use Rattle.std.specs.Prelude.{Any}
use Rattle.declared_features.specs.NameSets.{AddsNames}
use Rattle.declared_features.specs.MissingEdges.{HasOnlyCondition}
use Rattle.declared_features.proofs.missing_edges.kept_conditions.Given as goal

abbrev pub invariant-nodes : goal.invariant-nodes
invariant-nodes l =
    AddsNames l.initial.conditions l.conditions
    (λ q. Any (λ node. Any (λ edge. HasOnlyCondition edge q) node.dependencies.items)
    (take l.i l.metadata.nodes.items))
