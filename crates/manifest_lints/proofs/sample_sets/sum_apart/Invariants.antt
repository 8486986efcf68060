use Rattle.std.proofs.Common.{◌≡◌, drop, map}
use Rattle.cargo_platform.specs.Trees.{tree_of}
use Rattle.manifest_lints.specs.Numbers.{apart_of, summed, pair_at}
use Rattle.manifest_lints.proofs.sample_sets.sum_apart.Given as goal

-- the sum hangs on the values that are left
abbrev pub invariant-pairs : goal.invariant-pairs
invariant-pairs l =
    summed (apart_of (tree_of l.e)) l.sum (map pair_at (drop l.pair-index l.pairs))
    ≡ summed (apart_of (tree_of l.e)) 0 (map pair_at l.pairs)
