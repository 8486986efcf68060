use Rattle.std.proofs.Common.{◌≡◌, map}
use Rattle.std.specs.List.{filter, range_with_len}
use Rattle.cargo_platform.specs.Trees.{condition_of}
use Rattle.target_tables.specs.Rows.{row_of, holds_at}
use Rattle.target_tables.proofs.table.places_where.Given as goal

abbrev pub invariant-rows : goal.invariant-rows
invariant-rows l =
    l.places.items ≡ filter (holds_at (map row_of l.rows) (condition_of l.platform)) (range_with_len 0 l.i)
