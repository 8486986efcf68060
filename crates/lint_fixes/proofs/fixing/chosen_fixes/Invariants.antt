use Rattle.std.proofs.Common.{◌≡◌, true, All, Contains, List, ◌++◌}
use Rattle.std.specs.List.{list_all}
use Rattle.toml.specs.View.{table_view}
use Rattle.lint_fixes.specs.Fixing.{finds_key}
use Rattle.lint_fixes.specs.declared.fixing.Fix.{Fix}
use Rattle.lint_fixes.proofs.fixing.chosen_fixes.Given as goal

abbrev pub invariant-loop-fix : goal.invariant-loop-fix
invariant-loop-fix l =
    (done : List Fix) × (l.fn.fixes.items ≡ done ++ l.fix-iterator.rest.items)
    × All (Contains l.fn.fixes.items) l.chosen.items
    × (list_all (finds_key (table_view l.manifest)) l.chosen.items ≡ true)
