use Rattle.std.proofs.Common.{◌≡◌, ◌<◌, ◌≤◌, ◌*◌, ℕ, false}
use Rattle.known_targets.specs.Bits.{has}
use Rattle.manifest_lints.specs.Samples.{is_set}
use Rattle.manifest_lints.specs.declared.sample_sets.TheConstants.{STRIDE}
use Rattle.manifest_lints.proofs.sample_sets.sampled.Given as goal

-- the bits before a place are set, and none from it on
abbrev pub invariant-places : goal.invariant-places
invariant-places l = record {
  before : (j : ℕ) → j < l.place → is_set l.truths j ≡ has l.words (j * STRIDE);
  after : (j : ℕ) → l.place ≤ j → is_set l.truths j ≡ false;
}
