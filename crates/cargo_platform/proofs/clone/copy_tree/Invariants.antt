use Rattle.std.proofs.Common.{◌≡◌, ◌+◌, ◌*◌}
use Rattle.cargo_platform.specs.Trees.{tree_of}
use Rattle.cargo_platform.specs.ExpressionSizes.{node_count}
use Rattle.cargo_platform.specs.Inside.Copying.{whole, work}
use Rattle.cargo_platform.proofs.clone.copy_tree.Given as goal

-- the part, in the groups around it, is the whole
abbrev pub invariant-parts : goal.invariant-parts
invariant-parts l = whole l.groups (tree_of l.part) ≡ tree_of l.e

abbrev pub decreases-parts : goal.decreases-parts
decreases-parts l = work l.groups + 2 * node_count l.part
