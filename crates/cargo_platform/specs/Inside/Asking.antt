-- Whether an expression or its negation is evaluated, and how queries are counted.
use Rattle.std.specs.Prelude.{ℕ, ◌+◌, ◌-◌, ◌^◌, ◌<◌, ◌≤◌, Bool, true, false, not}

abbrev pub asked : Bool → Bool → Bool
asked true b = b
asked false b = not b

-- A count rises from `old` to `new` by as much as a number falls from `before` to `left`. The greatest count stands for
-- that many or more.
pub record Counts (before left old new : ℕ) : Type 0 where
  pub grows : old ≤ new
  pub within : old < 2 ^ 128 → new < 2 ^ 128
  pub at_most : new + left ≤ old + before
  pub at_least : new < 2 ^ 128 - 1 → old + before ≤ new + left
