use Rattle.std.proofs.Common.{◌≡◌, ℕ, ◌<◌, length, get_or}
use Rattle.known_targets.specs.declared.table.TheConstants.{SET_WORDS}
use Rattle.known_targets.proofs.Bits.{in_use}
use Rattle.known_targets.proofs.target_set.TargetSet.words.Given as goal

abbrev pub invariant-each : goal.invariant-each
invariant-each l = (length l.words ≡ SET_WORDS) × ((j : ℕ) → j < l.i → get_or l.words j 0 ≡ in_use l.self.words j)
