use Rattle.std.proofs.Common.{◌≡◌, drop}
use Rattle.std.specs.List.{list_any}
use Rattle.partial_facts.specs.Partly.{names_of}
use Rattle.manifest_lints.specs.Doubled.{is_doubled_in, has_doubled, pairs_at}
use Rattle.manifest_lints.proofs.shown_by_samples.has_doubled.Given as goal

-- the answer hangs on the facts that are left
abbrev pub invariant-facts : goal.invariant-facts
invariant-facts l =
    list_any (is_doubled_in (names_of l.single) (pairs_at l.facts)) (pairs_at (drop l.c-index l.facts))
    ≡ has_doubled (names_of l.single) (pairs_at l.facts)
