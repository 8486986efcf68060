-- The results of reading the whole input.
use Rattle.std.specs.Prelude.{ℕ, ◌≡◌, ◌≤◌, ◌<◌, ◌*◌, ◌⊎◌, Option, List, length}
use Rattle.std.specs.Io.KnownBytes.{Consumes, IsAtEnd}
use Rattle.platform_answers.specs.declared.counted.ReadCounts.{ReadCounts}
use Rattle.platform_answers.specs.declared.reading.ReadOutcome.{ReadOutcome}
use Rattle.platform_answers.specs.declared.reading.ReadOutcome.TheVariants.{Whole, TooLong}

-- the input has more bytes than it may have
abbrev pub IsTooLong : List ℕ → Type 0
IsTooLong bs = 1_048_576 < length bs

-- the whole input is the bytes that were read, and an input that is too long is known by one byte too many
abbrev pub IsGathered : ReadOutcome → List ℕ → Type 0
IsGathered (Whole v) bs = (v.items ≡ bs) × (length bs ≤ 1_048_576)
IsGathered TooLong bs = IsTooLong bs

-- these bytes were read and counted, no read failed other than by an interruption, and one read met the end, where the
-- reader was; if there are too many, no read met an end
pub record IsInput (old new : Option (List ℕ)) (counts : ReadCounts) (bs : List ℕ) : Type 0 where
  pub given : Consumes old new bs
  pub counted : counts.bytes ≡ length bs
  pub unfailed : counts.failed_reads ≡ 0
  pub ended : length bs ≤ 1_048_576 → (counts.empty_reads ≡ 1) × IsAtEnd new
  pub unended : IsTooLong bs → counts.empty_reads ≡ 0

-- the reads returned neither the end nor a byte too many, and one of them failed other than by an interruption, or none
-- did and the maximum number was made
abbrev pub HasReadFault : ReadCounts → Type 0
HasReadFault c =
    (c.empty_reads ≡ 0) × (c.bytes ≤ 1_048_576)
    × ((c.failed_reads ≡ 1) ⊎ ((c.failed_reads ≡ 0) × (c.reads ≡ 1_048_578)))

-- no read failed, and the end was met or some byte was read
abbrev pub MayWantMemory : ReadCounts → Type 0
MayWantMemory c = (c.failed_reads ≡ 0) × ((c.empty_reads ≡ 1) ⊎ (0 < c.bytes))

-- each read had room for 4,096 bytes
abbrev pub HadWholeRoom : ReadCounts → Type 0
HadWholeRoom c = c.room ≡ 4096 * c.reads
