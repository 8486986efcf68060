use Rattle.std.proofs.Common.{map}
use Rattle.std.specs.Fmt.{IsPlainFormatter}
use Rattle.cargo_platform.specs.Trees.{tree_of, trees_of}
use Rattle.cargo_platform.specs.Inside.Printing.{ending, ending_last, closed, HasWrittenBut}
use Rattle.cargo_platform.specs.ExpressionSizes.{node_counts}
use Rattle.cargo_platform.proofs.display.write_ends.Given as goal

-- the parentheses of the last member are left
abbrev pub invariant-levels : goal.invariant-levels
invariant-levels g l =
    IsPlainFormatter l.fn.f
    → HasWrittenBut g.W.Write.write_str_gives l.fn.f (closed (ending (tree_of l.e)))
    (closed (ending_last (trees_of (map tree_of l.left)))) l.f

abbrev pub decreases-levels : goal.decreases-levels
decreases-levels g l = node_counts l.left
