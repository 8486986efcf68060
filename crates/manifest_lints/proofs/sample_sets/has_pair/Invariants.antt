use Rattle.std.proofs.Common.{◌≡◌, drop, map}
use Rattle.manifest_lints.specs.Numbers.{has_pair, pair_at}
use Rattle.manifest_lints.proofs.sample_sets.has_pair.Given as goal

-- the answer hangs on the pairs that are left
abbrev pub invariant-pairs : goal.invariant-pairs
invariant-pairs l =
    has_pair (map pair_at (drop l.other-index l.pairs)) (pair_at l.pair)
    ≡ has_pair (map pair_at l.pairs) (pair_at l.pair)
