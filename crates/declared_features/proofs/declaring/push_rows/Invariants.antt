use Rattle.std.proofs.Common.{List, map, take, ◌++◌}
use Rattle.declared_features.specs.Rows.{EdgeKind, of_kind, AreRowsOf}
use Rattle.declared_features.proofs.declaring.push_rows.Given as goal

abbrev pub invariant-kinds : goal.invariant-kinds
invariant-kinds l =
    (kinds : List EdgeKind) → AreRowsOf kinds l.links l.initial.rows.items
    → AreRowsOf (kinds ++ map (of_kind l.edge) (take l.i l.edge.kinds.items)) l.links l.rows.items
