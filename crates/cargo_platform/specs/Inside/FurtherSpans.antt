-- For proofs: spans that are moved into a larger text.
use Rattle.std.specs.Prelude.{ℕ, ◌+◌, ◌^◌, ◌≤◌}
use Rattle.std.specs.declared.ops.Range.{Range}

-- a span whose end would be too large to count
abbrev pub IsTooFar : ℕ → Range ℕ → Type 0
IsTooFar place span = span.start ≤ span.end → 2 ^ 64 ≤ span.end + place
