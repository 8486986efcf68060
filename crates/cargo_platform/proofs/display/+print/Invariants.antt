use Rattle.std.proofs.Common.{◌≢◌, ◌≤◌, map, length}
use Rattle.std.specs.Fmt.{IsPlainFormatter}
use Rattle.cargo_platform.specs.Trees.{tree_of, trees_of}
use Rattle.cargo_platform.specs.Inside.Printing.{begun, begun_members, HasWrittenBut}
use Rattle.cargo_platform.specs.ExpressionSizes.{node_count, node_counts}
use Rattle.cargo_platform.proofs.display.+print.Given as goal

-- what was written, and what is left before the parentheses that end the expression
abbrev pub invariant-groups : goal.invariant-groups
invariant-groups g l =
    (IsPlainFormatter l.fn.f
    → HasWrittenBut g.W.Write.write_str_gives l.fn.f (begun (tree_of l.e))
    (begun_members (trees_of (map tree_of l.left))) l.f)
    × (length l.left ≢ 1) × (node_counts l.left ≤ node_count l.e)

abbrev pub decreases-groups : goal.decreases-groups
decreases-groups g l = node_counts l.left

abbrev pub decreases-write_expression : goal.decreases-write_expression
decreases-write_expression g l = node_count l.e.now
