use Rattle.std.proofs.Common.{◌≡◌, ◌+◌, ◌*◌, ◌≤◌, drop, map, length}
use Rattle.cargo_platform.specs.Trees.{tree_of, trees_of}
use Rattle.cargo_platform.specs.Key.{tree_cmp, trees_cmp}
use Rattle.cargo_platform.specs.ExpressionSizes.{node_count, node_counts}
use Rattle.cargo_platform.proofs.order.expressions.+compare.Given as goal

abbrev pub decreases-compare : goal.decreases-compare
decreases-compare l = 4 * node_count l.a.now + 1

abbrev pub decreases-compare_forms : goal.decreases-compare_forms
decreases-compare_forms l = 4 * node_count l.a.now

abbrev pub decreases-compare_all_but_last : goal.decreases-compare_all_but_last
decreases-compare_all_but_last l = 4 * node_counts l.ds.now + 3

abbrev pub decreases-compare_members : goal.decreases-compare_members
decreases-compare_members l = 4 * node_counts l.ds.now + 2

-- the answer depends on what the loop has come to
abbrev pub invariant-compare-levels : goal.invariant-compare-levels
invariant-compare-levels l =
    (tree_cmp (tree_of l.d) (tree_of l.e) ≡ tree_cmp (tree_of l.a) (tree_of l.b)) × (node_count l.d ≤ node_count l.a)

abbrev pub decreases-compare-levels : goal.decreases-compare-levels
decreases-compare-levels l = node_count l.d

-- the answer depends on the members that are left
abbrev pub invariant-compare_members-loop-d : goal.invariant-compare_members-loop-d
invariant-compare_members-loop-d l =
    trees_cmp (trees_of (map tree_of (drop (length l.yielded) l.ds)))
    (trees_of (map tree_of (drop (length l.yielded) l.es)))
    ≡ trees_cmp (trees_of (map tree_of l.ds)) (trees_of (map tree_of l.es))
