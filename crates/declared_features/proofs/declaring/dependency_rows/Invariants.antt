use Rattle.std.proofs.Common.{take}
use Rattle.declared_features.specs.Rows.{kinds_of, AreRowsOf}
use Rattle.declared_features.proofs.declaring.dependency_rows.Given as goal

abbrev pub invariant-edges : goal.invariant-edges
invariant-edges l =
    AreRowsOf (kinds_of (take l.i l.written.dependencies.items)) l.unit.dependencies.items l.rows.items
