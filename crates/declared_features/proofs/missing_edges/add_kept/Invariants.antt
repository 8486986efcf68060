use Rattle.std.proofs.Common.{take}
use Rattle.std.specs.Prelude.{Any}
use Rattle.declared_features.specs.NameSets.{AddsNames}
use Rattle.declared_features.specs.MissingEdges.{HasOnlyCondition}
use Rattle.declared_features.proofs.missing_edges.add_kept.Given as goal

abbrev pub invariant-edges : goal.invariant-edges
invariant-edges l =
    AddsNames l.initial.conditions l.conditions
    (λ q. Any (λ edge. HasOnlyCondition edge q) (take l.i l.node.dependencies.items))
