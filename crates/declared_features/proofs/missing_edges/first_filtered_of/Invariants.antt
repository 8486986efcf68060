use Rattle.std.proofs.Common.{take}
use Rattle.std.specs.Prelude.{Any}
use Rattle.declared_features.specs.MissingEdges.{IsFilteredOut}
use Rattle.declared_features.proofs.missing_edges.first_filtered_of.Given as goal

abbrev pub invariant-declared : goal.invariant-declared
invariant-declared l = ¬ Any (IsFilteredOut l.searched.graph l.node) (take l.i l.manifest.dependencies.items)
