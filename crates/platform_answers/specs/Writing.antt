-- The results of writing the whole output.
use Rattle.std.specs.Prelude.{ℕ, ◌≡◌, ◌≤◌, ◌<◌, ◌+◌, ◌⊎◌, Option, List, length, take}
use Rattle.std.specs.Io.KnownBytes.{Appends}
use Rattle.platform_answers.specs.declared.counted.WriteCounts.{WriteCounts}

-- a beginning of the text was appended to the known bytes
abbrev pub WritesBeginning : Option (List ℕ) → Option (List ℕ) → List ℕ → Type 0
WritesBeginning old new text = (n : ℕ) × (n ≤ length text) × Appends old new (take n text)

-- at most one write more than there are bytes, and at most one flush
abbrev pub IsWithinWrites : WriteCounts → ℕ → Type 0
IsWithinWrites c m = (c.writes ≤ m + 1) × (c.flushes ≤ 1)

-- the writes that failed other than by an interruption or took nothing, and the flushes that failed, including the
-- interrupted ones
abbrev pub failures : WriteCounts → ℕ
failures c = c.failed_writes + c.empty_writes + c.interrupted_flushes + c.failed_flushes

-- one flush was requested, after all writes
abbrev pub IsFlushed : WriteCounts → Type 0
IsFlushed c = (c.flushes ≡ 1) × (c.flushed_writes ≡ c.writes)

-- one call failed; or none did, and m + 1 writes were made, of which more than one was interrupted
abbrev pub HasWriteFault : WriteCounts → ℕ → Type 0
HasWriteFault c m = (failures c ≡ 1) ⊎ ((failures c ≡ 0) × (c.writes ≡ m + 1) × (1 < c.interrupted_writes))
