use Rattle.std.proofs.Common.{ℕ, ◌<◌, map}
use Rattle.std.specs.Prelude.{◌≢◌}
use Rattle.target_tables.specs.Rows.{row_of, name_at}
use Rattle.target_tables.proofs.table.place_of.Given as goal

abbrev pub invariant-rows : goal.invariant-rows
invariant-rows l = (k : ℕ) → k < l.i → name_at (map row_of l.rows) k ≢ l.name
