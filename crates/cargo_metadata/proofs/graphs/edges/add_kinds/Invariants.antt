use Rattle.std.proofs.Common.{ℕ, List}
use Rattle.cargo_metadata.specs.Indexes.{AreFound}
use Rattle.cargo_metadata.specs.Inside.Adding.{AddsRows}
use Rattle.cargo_metadata.proofs.graphs.edges.add_kinds.Given as goal

abbrev pub invariant-kinds : goal.invariant-kinds
invariant-kinds l =
    (ids : List (List ℕ)) → AreFound l.nodes ids
    → AddsRows ids l.written.on.now l.written.kinds.items l.i l.initial.edges.items l.edges.items
