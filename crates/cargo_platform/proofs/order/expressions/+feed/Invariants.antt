use Rattle.std.proofs.Common.{◌≡◌, ◌∷◌, ◌+◌, ◌*◌, ◌≤◌, length, map, fold}
use Rattle.cargo_platform.specs.Trees.{tree_of, trees_of}
use Rattle.cargo_platform.specs.Hashing.{tree_hash, trees_hash}
use Rattle.cargo_platform.specs.ExpressionSizes.{node_count, node_counts}
use Rattle.cargo_platform.proofs.order.expressions.+feed.Given as goal

abbrev pub decreases-feed : goal.decreases-feed
decreases-feed g l = 2 * node_count l.e.now

abbrev pub decreases-feed_all_but_last : goal.decreases-feed_all_but_last
decreases-feed_all_but_last g l = 2 * node_counts l.members.now + 1

-- what is left to feed
abbrev pub invariant-feed-levels : goal.invariant-feed-levels
invariant-feed-levels g l =
    (fold g.H.Hasher.write l.state (tree_hash (tree_of l.part))
    ≡ fold g.H.Hasher.write l.initial.state (tree_hash (tree_of l.e)))
    × (node_count l.part ≤ node_count l.e)

abbrev pub decreases-feed-levels : goal.decreases-feed-levels
decreases-feed-levels g l = node_count l.part

-- the members that are left to feed
abbrev pub invariant-feed_all_but_last-members : goal.invariant-feed_all_but_last-members
invariant-feed_all_but_last-members g l =
    (fold g.H.Hasher.write l.state (trees_hash (trees_of (map tree_of (l.e ∷ l.left))))
    ≡ fold g.H.Hasher.write l.initial.state (trees_hash (trees_of (map tree_of l.members))))
    × (node_count l.e + node_counts l.left ≤ node_counts l.members)

abbrev pub decreases-feed_all_but_last-members : goal.decreases-feed_all_but_last-members
decreases-feed_all_but_last-members g l = length l.left
