use Rattle.std.proofs.Common.{◌≡◌, [], drop, map}
use Rattle.cargo_platform.specs.Trees.{value_of}
use Rattle.cargo_platform.specs.Facts.{pair_of}
use Rattle.manifest_lints.specs.Numbers.{unknown_beside, pair_at}
use Rattle.manifest_lints.proofs.sample_sets.unknown_values.Given as goal

-- what is found hangs on the values that are left
abbrev pub invariant-values : goal.invariant-values
invariant-values l =
    unknown_beside (map pair_at l.found.items) (map pair_of (map (λ c. value_of c.now) (drop l.each-index l.values)))
    ≡ unknown_beside [] (map pair_of (map (λ c. value_of c.now) l.values))
