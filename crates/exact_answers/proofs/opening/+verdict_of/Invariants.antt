use Rattle.std.proofs.Common.{◌∷◌, ◌+◌, ◌*◌, ◌≤◌, true, length, map}
use Rattle.cargo_platform.specs.Trees.{tree_of}
use Rattle.cargo_platform.specs.ExpressionSizes.{node_count, node_counts}
use Rattle.cargo_platform.specs.Walk.{list_tree}
use Rattle.exact_answers.specs.Inside.Opening.{HangsOn}
use Rattle.exact_answers.proofs.opening.+verdict_of.Given as goal

abbrev pub decreases-verdict_of : goal.decreases-verdict_of
decreases-verdict_of g l = 2 * node_count l.e.now

abbrev pub decreases-verdict_before_last : goal.decreases-verdict_before_last
decreases-verdict_before_last g l = 2 * node_counts l.members.now + 1

-- the verdict depends on what the loop has come to
abbrev pub invariant-verdict_of-levels : goal.invariant-verdict_of-levels
invariant-verdict_of-levels g l = record {
  hangs : HangsOn l.wanted (g.K.Knowledge.told l.known) (tree_of l.fn.e) (tree_of l.e);
  within : node_count l.e ≤ node_count l.fn.e;
}

abbrev pub decreases-verdict_of-levels : goal.decreases-verdict_of-levels
decreases-verdict_of-levels g l = node_count l.e

-- the group depends on the members that are left
abbrev pub invariant-verdict_before_last-members : goal.invariant-verdict_before_last-members
invariant-verdict_before_last-members g l = record {
  hangs : HangsOn true (g.K.Knowledge.told l.known) (list_tree l.neutral (map tree_of l.members))
      (list_tree l.neutral (map tree_of (l.e ∷ l.left)));
  within : node_count l.e + node_counts l.left ≤ node_counts l.members;
}

abbrev pub decreases-verdict_before_last-members : goal.decreases-verdict_before_last-members
decreases-verdict_before_last-members g l = length l.left
