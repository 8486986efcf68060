use Rattle.std.proofs.Common.{◌≡◌, List, ◌++◌, Some, string_bytes}
use Rattle.std.specs.List.{AllByRecursion}
use Rattle.toml.specs.Data.{Data, get_member}
use Rattle.toml.specs.View.{view, table_view}
use Rattle.toml.proofs.Views.{Entry}
use Rattle.lint_fixes.specs.Sameness.{IsSameBut, member_of, renames_members}
use Rattle.lint_fixes.specs.Names.{IsRename, change_at, name_in}
use Rattle.lint_fixes.proofs.sameness.+is_same_at.Given as goal

abbrev pub invariant-have_same_members-loop-name : goal.invariant-have_same_members-loop-name
invariant-have_same_members-loop-name l =
    (done : List Entry) × (l.table.entries ≡ done ++ l.name-iterator)
    × AllByRecursion (λ e. (other : Data)
    × (get_member (name_in (renames_members (change_at l.place)) (table_view l.fixed) l.renames (string_bytes e.0))
    (table_view l.fixed) ≡ Some other)
    × IsSameBut (member_of (change_at l.place) (string_bytes e.0)) (IsRename l.renames) (view e.1) other) done
