use Rattle.std.proofs.Common.{◌≡◌, ◌++◌, ◌+◌, ◌*◌, List, length, sum, map, flat_map, reverse}
use Rattle.cargo_platform.specs.Trees.{CfgValue, tree_of}
use Rattle.cargo_platform.specs.Errors.{texts}
use Rattle.cargo_platform.specs.Warnings.{values}
use Rattle.cargo_platform.specs.ExpressionSizes.{node_counts}
use Rattle.cargo_platform.proofs.WarningWalks.{values_of, count_if_any}
use Rattle.cargo_platform.proofs.warnings.walk.Given as goal

-- the values whose warnings were appended, and those that are still to come
abbrev pub invariant-members : goal.invariant-members
invariant-members g l =
    (over : List CfgValue)
    × (texts l.warnings ≡ texts l.initial.warnings ++ flat_map (g.L.Lint.warning l.lint) over)
    × (over ++ (values_of l.members
    ++ (values_of l.around ++ flat_map (λ es. values_of es.now) (reverse l.outer.items))) ≡ values (tree_of l.e))

abbrev pub decreases-members : goal.decreases-members
decreases-members g l =
    2 * (node_counts l.members + node_counts l.around + sum (map (λ es. node_counts es.now) l.outer.items))
    + length l.outer.items + count_if_any l.around
