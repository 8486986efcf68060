use Rattle.std.proofs.Common.{take}
use Rattle.declared_features.specs.NameSets.{AddsNames}
use Rattle.declared_features.specs.MissingEdges.{TurnOn}
use Rattle.declared_features.proofs.missing_edges.add_turned_on.Given as goal

abbrev pub invariant-entries : goal.invariant-entries
invariant-entries l = AddsNames l.initial.names l.names (TurnOn (take l.i l.entries))
