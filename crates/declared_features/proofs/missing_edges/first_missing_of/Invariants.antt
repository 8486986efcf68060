use Rattle.std.proofs.Common.{take}
use Rattle.std.specs.Prelude.{Any}
use Rattle.cargo_features.specs.Inside.Numbered.{AreNumbers}
use Rattle.declared_features.specs.MissingEdges.{IsNewlyEnabled}
use Rattle.declared_features.proofs.missing_edges.first_missing_of.Given as goal

abbrev pub invariant-declared : goal.invariant-declared
invariant-declared l =
    AreNumbers l.resolved.packages.items l.resolved.found.numbers
    → ¬ Any (IsNewlyEnabled l.searched.graph l.resolved l.requested l.node) (take l.i l.manifest.dependencies.items)
