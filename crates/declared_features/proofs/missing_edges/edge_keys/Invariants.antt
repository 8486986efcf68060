use Rattle.std.proofs.Common.{take}
use Rattle.std.specs.Prelude.{Any}
use Rattle.declared_features.specs.Inside.Keys.{AddsKeys, IsKeyOf}
use Rattle.declared_features.proofs.missing_edges.edge_keys.Given as goal

abbrev pub invariant-rows : goal.invariant-rows
invariant-rows l =
    AddsKeys l.initial.keys l.keys (λ key. Any (λ row. IsKeyOf l.graph row key) (take l.i l.rows.items))
