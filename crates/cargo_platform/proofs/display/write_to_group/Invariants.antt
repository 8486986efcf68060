use Rattle.std.proofs.Common.{◌≤◌, map}
use Rattle.std.specs.Fmt.{IsPlainFormatter}
use Rattle.cargo_platform.specs.Trees.{tree_of, trees_of}
use Rattle.cargo_platform.specs.Inside.Printing.{begun_members, HasWrittenBut}
use Rattle.cargo_platform.specs.ExpressionSizes.{node_counts}
use Rattle.cargo_platform.proofs.display.write_to_group.Given as goal

abbrev pub invariant-members : goal.invariant-members
invariant-members g l =
    (IsPlainFormatter l.initial.f
    → HasWrittenBut g.W.Write.write_str_gives l.initial.f (begun_members (trees_of (map tree_of l.initial.left.now)))
    (begun_members (trees_of (map tree_of l.left.now))) l.f)
    × (node_counts l.left.now ≤ node_counts l.initial.left.now)

abbrev pub decreases-members : goal.decreases-members
decreases-members g l = node_counts l.left.now
