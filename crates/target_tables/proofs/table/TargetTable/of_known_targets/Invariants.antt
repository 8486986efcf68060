use Rattle.std.proofs.Common.{◌≡◌, ◌++◌, map}
use Rattle.known_targets.specs.Sets.{left}
use Rattle.target_tables.specs.Rows.{row_of}
use Rattle.target_tables.specs.Added.{known_row, known_rows}
use Rattle.target_tables.proofs.table.TargetTable.of_known_targets.Given as goal

-- the rows so far, and those of the targets that are left
abbrev pub invariant-targets : goal.invariant-targets
invariant-targets l = map row_of l.rows.items ++ map known_row (left l.target-iterator) ≡ known_rows
