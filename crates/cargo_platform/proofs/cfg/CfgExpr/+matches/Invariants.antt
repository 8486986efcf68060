use Rattle.std.proofs.Common.{◌≡◌, ◌+◌, ◌*◌, ◌≤◌, length, map}
use Rattle.cargo_platform.specs.Trees.{tree_of, trees_of}
use Rattle.cargo_platform.specs.Facts.{truth, all_true, any_true}
use Rattle.cargo_platform.specs.Asks.{asks, asks_of_all, asks_of_any}
use Rattle.cargo_platform.specs.Inside.Asking.{asked, Counts}
use Rattle.cargo_platform.specs.ExpressionSizes.{node_count, node_counts}
use Rattle.cargo_platform.proofs.cfg.CfgExpr.+matches.Given as goal

abbrev pub decreases-is_true_in : goal.decreases-is_true_in
decreases-is_true_in g l = 3 * node_count l.self.now

abbrev pub decreases-is_true_member : goal.decreases-is_true_member
decreases-is_true_member g l = 3 * node_count l.self.now + 1

abbrev pub decreases-all_but_last : goal.decreases-all_but_last
decreases-all_but_last g l = 3 * node_counts l.members.now + 2

abbrev pub decreases-any_but_last : goal.decreases-any_but_last
decreases-any_but_last g l = 3 * node_counts l.members.now + 2

-- the answer, and the asks that are left, depend on what the loop has come to
abbrev pub invariant-is_true_in-levels : goal.invariant-is_true_in-levels
invariant-is_true_in-levels g l =
    (asked l.is_asked (truth (g.F.Asked.meant l.facts) (tree_of l.e)) ≡ truth (g.F.Asked.meant l.facts)
    (tree_of l.self))
    × Counts (asks (g.F.Asked.meant l.facts) (tree_of l.self)) (asks (g.F.Asked.meant l.facts) (tree_of l.e))
    (g.T.Tally.asks l.initial.tally) (g.T.Tally.asks l.tally)
    × (node_count l.e ≤ node_count l.self)

abbrev pub decreases-is_true_in-levels : goal.decreases-is_true_in-levels
decreases-is_true_in-levels g l = node_count l.e

-- they depend on the members that are left
abbrev pub invariant-all_but_last-members : goal.invariant-all_but_last-members
invariant-all_but_last-members g l =
    (all_true (g.F.Asked.meant l.facts) (trees_of (map tree_of l.left))
    ≡ all_true (g.F.Asked.meant l.facts) (trees_of (map tree_of l.members)))
    × Counts (asks_of_all (g.F.Asked.meant l.facts) (trees_of (map tree_of l.members)))
    (asks_of_all (g.F.Asked.meant l.facts) (trees_of (map tree_of l.left)))
    (g.T.Tally.asks l.initial.tally) (g.T.Tally.asks l.tally)
    × (node_counts l.left ≤ node_counts l.members)

abbrev pub decreases-all_but_last-members : goal.decreases-all_but_last-members
decreases-all_but_last-members g l = length l.left

abbrev pub invariant-any_but_last-members : goal.invariant-any_but_last-members
invariant-any_but_last-members g l =
    (any_true (g.F.Asked.meant l.facts) (trees_of (map tree_of l.left))
    ≡ any_true (g.F.Asked.meant l.facts) (trees_of (map tree_of l.members)))
    × Counts (asks_of_any (g.F.Asked.meant l.facts) (trees_of (map tree_of l.members)))
    (asks_of_any (g.F.Asked.meant l.facts) (trees_of (map tree_of l.left)))
    (g.T.Tally.asks l.initial.tally) (g.T.Tally.asks l.tally)
    × (node_counts l.left ≤ node_counts l.members)

abbrev pub decreases-any_but_last-members : goal.decreases-any_but_last-members
decreases-any_but_last-members g l = length l.left
