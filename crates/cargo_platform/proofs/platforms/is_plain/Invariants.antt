use Rattle.std.proofs.Common.{◌≡◌, ℕ, ◌-◌, ◌<◌, ◌≤◌, length, true, List}
use Rattle.std.specs.Prelude.{slice_index}
use Rattle.cargo_platform.specs.Platforms.{is_plain_byte}
use Rattle.cargo_platform.proofs.platforms.is_plain.Given as goal

-- all bytes before the place that was reached are plain
abbrev IsPlainTo : List ℕ → ℕ → Type 0
IsPlainTo name at = record {
  within : at ≤ length name;
  plain : (i : ℕ) → 0 ≤ i → i < at → is_plain_byte (slice_index name i) ≡ true;
}

abbrev pub invariant-by_block : goal.invariant-by_block
invariant-by_block l = IsPlainTo l.name l.at

abbrev pub decreases-by_block : goal.decreases-by_block
decreases-by_block l = length l.name - l.at

abbrev pub invariant-rest : goal.invariant-rest
invariant-rest l = IsPlainTo l.name l.at

abbrev pub decreases-rest : goal.decreases-rest
decreases-rest l = length l.name - l.at
