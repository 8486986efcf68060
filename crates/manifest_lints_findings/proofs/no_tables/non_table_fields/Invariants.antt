use Rattle.std.proofs.Common.{◌≡◌, ◌++◌, map, string_bytes}
use Rattle.toml.specs.View.{view, members_view}
use Rattle.manifest_lints_findings.specs.NoTables.{names_of_no_tables, no_table_names}
use Rattle.manifest_lints_findings.proofs.no_tables.non_table_fields.Given as goal

-- the names so far, and those of what is still to come
abbrev pub invariant-members : goal.invariant-members
invariant-members l =
    map (λ s. string_bytes s) l.found.items ++ names_of_no_tables (members_view l.name-iterator)
    ≡ no_table_names (view l.value)
