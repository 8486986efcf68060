use Rattle.std.proofs.Common.{ℕ, ◌<◌}
use Rattle.std.specs.Prelude.{Any}
use Rattle.declared_features.specs.MissingEdges.{IsFilteredOut}
use Rattle.declared_features.specs.Manifests.{dependencies_at}
use Rattle.declared_features.proofs.missing_edges.first_filtered_out.Given as goal

abbrev pub invariant-nodes : goal.invariant-nodes
invariant-nodes l =
    (k : ℕ) → k < l.node → ¬ Any (IsFilteredOut l.graph k) (dependencies_at l.graph.declared.now k)
