use Rattle.std.proofs.Common.{◌≡◌, ◌++◌, map}
use Rattle.std.specs.Option.{option_copied}
use Rattle.toml.specs.View.{table_view, members_view}
use Rattle.manifests.specs.Tables.{row_of, member_rows}
use Rattle.manifests.proofs.tables.add_members.Given as goal

-- what was appended, and what is still to come
abbrev pub invariant-members : goal.invariant-members
invariant-members l =
    map row_of l.initial.rows.items ++ member_rows (option_copied l.key) l.kind (table_view l.members)
    ≡ map row_of l.rows.items ++ member_rows (option_copied l.key) l.kind (members_view l.name-iterator)
