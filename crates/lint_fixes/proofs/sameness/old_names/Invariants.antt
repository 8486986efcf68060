use Rattle.std.proofs.Common.{◌≡◌, ℕ, List, ◌++◌, Some, IsSome, string_bytes}
use Rattle.std.specs.List.{AllByRecursion}
use Rattle.toml.specs.Data.{get_member}
use Rattle.toml.specs.View.{table_view}
use Rattle.toml.proofs.Views.{Entry}
use Rattle.lint_fixes.specs.Sameness.{renames_members}
use Rattle.lint_fixes.specs.Names.{change_at, name_in, old_name}
use Rattle.lint_fixes.proofs.sameness.old_names.Given as goal

abbrev pub invariant-loop-name : goal.invariant-loop-name
invariant-loop-name l =
    (done : List Entry) × (l.table.entries ≡ done ++ l.name-iterator)
    × AllByRecursion (λ e. old_name l.names (name_in (renames_members (change_at l.place))
    (table_view l.fixed) l.renames (string_bytes e.0)) ≡ Some (string_bytes e.0)) done
    × ((new name : List ℕ) → old_name l.names new ≡ Some name
    → (name_in (renames_members (change_at l.place)) (table_view l.fixed) l.renames name
    ≡ new) × IsSome (get_member name (table_view l.table)))
