use Rattle.std.proofs.Common.{take}
use Rattle.std.specs.Prelude.{Any}
use Rattle.declared_features.specs.MissingEdges.{MayBeFiltered}
use Rattle.declared_features.proofs.missing_edges.may_be_filtered_any.Given as goal

abbrev pub invariant-declared : goal.invariant-declared
invariant-declared l = ¬ Any (MayBeFiltered l.searched.graph l.node) (take l.i l.declared)
