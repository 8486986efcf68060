use Rattle.std.proofs.Common.{◌≡◌, ◌||◌, not}
use Rattle.toml.specs.View.{view, members_view}
use Rattle.manifest_lints_findings.specs.NoTables.{has_no_table, is_no_table, is_empty_list}
use Rattle.manifest_lints_findings.proofs.no_tables.non_tables.Given as goal

-- something was found, or is still to come
abbrev pub invariant-members : goal.invariant-members
invariant-members l =
    is_no_table (view l.value)
    ≡ (not (is_empty_list l.found.items) || has_no_table (members_view l.name-iterator))
