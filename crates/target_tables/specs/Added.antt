-- The rows of the known targets, and of a table to which a target is added.
use Rattle.std.specs.Prelude.{◌≡◌, ◌<◌, ℕ, Bool, true, false, List, [], ◌∷◌, ◌++◌, map, length}
use Rattle.std.specs.List.{range_with_len}
use Rattle.cargo_platform.specs.Trees.{CfgValue}
use Rattle.known_targets.specs.Rows.{facts_in}
use Rattle.known_targets.specs.Table.{target_name, table_keys}
use Rattle.known_targets.specs.declared.table.TheConstants.{COUNT}
use Rattle.target_tables.specs.Rows.{Row, name_at, HasNoRow}

-- the name and the facts of the known target at this place
abbrev pub known_row : ℕ → Row
known_row k = record { name = target_name k; facts = facts_in k table_keys }

-- all known targets, in their order
abbrev pub known_rows : List Row
known_rows = map known_row (range_with_len 0 COUNT)

-- With true, no row had the name, and there is one more, the last, with the name and the facts. With false, a row has
-- the name, and no row is new.
abbrev pub IsAdded : List Row → List ℕ → List CfgValue → List Row → Bool → Type 0
IsAdded old name facts new true = HasNoRow old name × (new ≡ old ++ (record { name = name; facts = facts }) ∷ [])
IsAdded old name facts new false = ((k : ℕ) × (k < length old) × (name_at old k ≡ name)) × (new ≡ old)
