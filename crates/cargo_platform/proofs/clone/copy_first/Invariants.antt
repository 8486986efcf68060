use Rattle.std.proofs.Common.{◌≡◌, ◌+◌, ◌*◌, ◌≤◌}
use Rattle.cargo_platform.specs.Trees.{tree_of}
use Rattle.cargo_platform.specs.ExpressionSizes.{node_count}
use Rattle.cargo_platform.specs.Inside.Copying.{whole, work}
use Rattle.cargo_platform.proofs.clone.copy_first.Given as goal

abbrev pub invariant-groups : goal.invariant-groups
invariant-groups l =
    (whole l.groups (tree_of l.part) ≡ whole l.initial.groups (tree_of l.e))
    × (work l.groups + 2 * node_count l.part ≤ work l.initial.groups + 2 * node_count l.e)

abbrev pub decreases-groups : goal.decreases-groups
decreases-groups l = work l.groups + 2 * node_count l.part
