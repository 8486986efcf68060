use Rattle.std.proofs.Common.{ℕ, ◌<◌}
use Rattle.std.specs.Prelude.{Any}
use Rattle.cargo_features.specs.Inside.Numbered.{AreNumbers}
use Rattle.declared_features.specs.MissingEdges.{IsNewlyEnabled}
use Rattle.declared_features.specs.Manifests.{dependencies_at}
use Rattle.declared_features.proofs.missing_edges.first_missing_edge.Given as goal

abbrev pub invariant-nodes : goal.invariant-nodes
invariant-nodes l =
    AreNumbers l.resolved.packages.items l.resolved.found.numbers → (k : ℕ) → k < l.node
    → ¬ Any (IsNewlyEnabled l.graph l.resolved l.requested k) (dependencies_at l.graph.declared.now k)
