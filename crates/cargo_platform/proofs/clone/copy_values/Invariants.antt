use Rattle.std.proofs.Common.{◌≡◌, ◌≤◌, ◌++◌, map, length}
use Rattle.cargo_platform.specs.Trees.{tree_of}
use Rattle.cargo_platform.specs.ExpressionSizes.{node_counts}
use Rattle.cargo_platform.proofs.clone.copy_values.Given as goal

abbrev pub invariant-members : goal.invariant-members
invariant-members l =
    (map tree_of l.copies.items ++ map tree_of l.left
    ≡ map tree_of l.initial.copies.items ++ map tree_of l.members)
    × (node_counts l.left ≤ node_counts l.members)

abbrev pub decreases-members : goal.decreases-members
decreases-members l = length l.left
