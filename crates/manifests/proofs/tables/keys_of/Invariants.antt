use Rattle.std.proofs.Common.{◌≡◌, ◌++◌, map}
use Rattle.toml.specs.View.{table_view, members_view}
use Rattle.manifests.specs.Entries.{entry_of}
use Rattle.manifests.specs.Tables.{entries_of}
use Rattle.manifests.proofs.tables.keys_of.Given as goal

-- what was taken, and what is still to come
abbrev pub invariant-members : goal.invariant-members
invariant-members l =
    entries_of (table_view l.table) ≡ map entry_of l.keys.items ++ entries_of (members_view l.key-iterator)
