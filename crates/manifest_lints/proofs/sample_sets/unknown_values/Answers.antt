use Rattle.std.proofs.Common.{arith, ap, drop, map, length}
use Rattle.std.proofs.lemmas.List.{length-map}
use Rattle.cargo_platform.specs.Trees.{value_of}
use Rattle.cargo_platform.specs.Facts.{pair_of}
use Rattle.manifest_lints.specs.Numbers.{pair_at}
use Rattle.manifest_lints.proofs.Numbers.{longer}
use Rattle.manifest_lints.proofs.sample_sets.unknown_values.Goals as goal

pub returns-then-len-gt-FEW-clause-none : goal.returns-then-len-gt-FEW-clause-none
returns-then-len-gt-FEW-clause-none c =
    let found = c.values.found.items in
    let left = map pair_of (map (λ x. value_of x.now) (drop c.values.each-index c.args.values.now)) in
    let more = longer (map pair_at found) left in
    let long = length-map found pair_at in
    let same = ap length c.values.invariant in
    let its = c.len.ensures in
    let many = c.if-len-gt-FEW.true in
    omega (arith, more, long, same, its, many)
