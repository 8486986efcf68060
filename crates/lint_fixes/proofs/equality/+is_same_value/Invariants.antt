use Rattle.std.proofs.Common.{◌≡◌, List, ◌++◌, take, map}
use Rattle.toml.specs.View.{view, members_view}
use Rattle.toml.proofs.Views.{Entry}
use Rattle.lint_fixes.proofs.equality.+is_same_value.Given as goal

abbrev pub invariant-are_same_items-loop-i : goal.invariant-are_same_items-loop-i
invariant-are_same_items-loop-i l = map view (take l.i l.a) ≡ map view (take l.i l.b)

abbrev pub invariant-are_same_members-loop-name : goal.invariant-are_same_members-loop-name
invariant-are_same_members-loop-name l =
    (done more : List Entry) × (l.a.entries ≡ done ++ l.name-iterator) × (l.b.entries
    ≡ more ++ l.others) × (members_view done ≡ members_view more)
