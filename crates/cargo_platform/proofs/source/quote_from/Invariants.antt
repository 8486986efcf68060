use Rattle.std.proofs.Common.{◌≡◌, ◌≢◌, ℕ, ◌+◌, ◌-◌, ◌*◌, ◌≤◌, ◌<◌, length}
use Rattle.std.specs.Prelude.{slice_index}
use Rattle.cargo_platform.proofs.source.quote_from.Given as goal

-- no quote is in the blocks before the place that was reached
abbrev pub invariant-by_block : goal.invariant-by_block
invariant-by_block l = record {
  within : l.at ≤ length l.bytes;
  blocks : (k : ℕ) × (l.at ≡ l.from + 16 * k);
  value : (i : ℕ) → l.from ≤ i → i < l.at → slice_index l.bytes i ≢ 0x22;
}

abbrev pub decreases-by_block : goal.decreases-by_block
decreases-by_block l = length l.bytes - l.at

-- nor in the bytes after the last block
abbrev pub invariant-value : goal.invariant-value
invariant-value l = record {
  within : l.at ≤ length l.bytes;
  blocks : (k : ℕ) × (l.from + 16 * k ≤ l.at) × (length l.bytes < l.from + 16 * k + 16);
  value : (i : ℕ) → l.from ≤ i → i < l.at → slice_index l.bytes i ≢ 0x22;
}

abbrev pub decreases-value : goal.decreases-value
decreases-value l = length l.bytes - l.at
