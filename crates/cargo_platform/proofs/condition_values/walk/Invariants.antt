use Rattle.std.proofs.Common.{◌≡◌, ◌++◌, ◌+◌, ◌*◌, length, sum, map, flat_map, reverse}
use Rattle.cargo_platform.specs.Trees.{value_of, tree_of}
use Rattle.cargo_platform.specs.Warnings.{values}
use Rattle.cargo_platform.specs.ExpressionSizes.{node_counts}
use Rattle.cargo_platform.proofs.WarningWalks.{values_of}
use Rattle.cargo_platform.proofs.condition_values.walk.Given as goal

-- those that were found, and those that are still to come
abbrev pub invariant-members : goal.invariant-members
invariant-members l =
    map (λ c. value_of c.now) l.found.items
    ++ (values_of l.members ++ flat_map (λ es. values_of es.0.now) (reverse l.around.items))
    ≡ values (tree_of l.e)

abbrev pub decreases-members : goal.decreases-members
decreases-members l =
    2 * (node_counts l.members + sum (map (λ es. node_counts es.0.now) l.around.items)) + length l.around.items
