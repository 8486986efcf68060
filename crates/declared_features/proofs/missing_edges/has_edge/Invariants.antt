use Rattle.std.proofs.Common.{take}
use Rattle.std.specs.Prelude.{Any}
use Rattle.declared_features.specs.Edges.{IsOf}
use Rattle.declared_features.proofs.missing_edges.has_edge.Given as goal

abbrev pub invariant-rows : goal.invariant-rows
invariant-rows l = ¬ Any (λ row. IsOf l.graph l.node row l.declared) (take l.i l.rows.items)
