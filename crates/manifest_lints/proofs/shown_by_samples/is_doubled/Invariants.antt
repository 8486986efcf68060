use Rattle.std.proofs.Common.{◌≡◌, drop}
use Rattle.std.specs.List.{list_any}
use Rattle.cargo_platform.specs.Trees.{value_of}
use Rattle.cargo_platform.specs.Facts.{pair_of}
use Rattle.manifest_lints.specs.Doubled.{are_two, pairs_at}
use Rattle.manifest_lints.proofs.shown_by_samples.is_doubled.Given as goal

-- the answer hangs on the facts that are left
abbrev pub invariant-facts : goal.invariant-facts
invariant-facts l =
    list_any (are_two (pair_of (value_of l.c))) (pairs_at (drop l.other-index l.facts))
    ≡ list_any (are_two (pair_of (value_of l.c))) (pairs_at l.facts)
