use Rattle.std.proofs.Common.{◌≡◌, ℕ, ◌<◌, ◌≤◌, false, []}
use Rattle.std.specs.Prelude.{bytes_eq}
use Rattle.std.specs.List.{slice_index_or}
use Rattle.known_targets.specs.Bits.{has}
use Rattle.partial_facts.specs.Partly.{names_of}
use Rattle.known_targets.specs.declared.table.TheConstants.{COUNT}
use Rattle.known_targets.proofs.matching_targets.named.Given as goal

abbrev pub invariant-names : goal.invariant-names
invariant-names l =
    ((k : ℕ) → k < l.i → has l.set.words k ≡ bytes_eq (slice_index_or (names_of l.names) k []) l.name)
    × ((k : ℕ) → l.i ≤ k → k < COUNT → has l.set.words k ≡ false)
