use Rattle.std.proofs.Common.{◌≡◌, ◌+◌, ◌*◌, ◌++◌, length, sum, map, flat_map, reverse}
use Rattle.cargo_platform.specs.Trees.{tree_of}
use Rattle.cargo_platform.specs.ExpressionSizes.{node_counts}
use Rattle.byte_answers.specs.Flat.{flat, flats_of}
use Rattle.byte_answers.proofs.flat.push_expression.Given as goal

-- what is written, and what is still to be
abbrev pub invariant-nodes : goal.invariant-nodes
invariant-nodes l =
    l.out.items ++ (flats_of l.left ++ flat_map (λ es. flats_of es.now) (reverse l.outer.items))
    ≡ l.initial.out.items ++ flat (tree_of l.e)

abbrev pub decreases-nodes : goal.decreases-nodes
decreases-nodes l =
    2 * (node_counts l.left + sum (map (λ es. node_counts es.now) l.outer.items)) + length l.outer.items
