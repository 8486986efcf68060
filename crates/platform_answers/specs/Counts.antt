-- The changes of counts, and the counts before the first call.
use Rattle.std.specs.Prelude.{ℕ, ◌+◌, ◌-◌, ◌^◌, min, ◌==◌, if◌then◌else◌}
use Rattle.platform_answers.specs.declared.counted.ReadCounts.{ReadCounts}
use Rattle.platform_answers.specs.declared.counted.WriteCounts.{WriteCounts}
use Rattle.platform_answers.specs.declared.counted.Input.{Input}
use Rattle.platform_answers.specs.declared.counted.Output.{Output}

-- the wrapped reader, and the counts of its reads
abbrev pub reader_of : {R : Type 0} → Input R → R
reader_of input = input.reader

abbrev pub read_counts : {R : Type 0} → Input R → ReadCounts
read_counts input = input.counts

-- the wrapped writer, and the counts of its writes and flushes
abbrev pub writer_of : {W : Type 0} → Output W → W
writer_of output = output.writer

abbrev pub write_counts : {W : Type 0} → Output W → WriteCounts
write_counts output = output.counts

-- a count after n more, which stays at its greatest value
abbrev pub up_by : ℕ → ℕ → ℕ
up_by n count = min (count + n) (2 ^ 64 - 1)

-- a count after one more
abbrev pub up : ℕ → ℕ
up count = up_by 1 count

-- a count of the calls that moved no byte, after a call that moved n
abbrev pub up_at_zero : ℕ → ℕ → ℕ
up_at_zero n count = if n == 0 then up count else count

-- no read was requested
abbrev pub no_reads : ReadCounts
no_reads = record { reads = 0; room = 0; interrupted_reads = 0; failed_reads = 0; bytes = 0; empty_reads = 0 }

-- after a read with this room, whatever its result
abbrev pub after_asking : ℕ → ReadCounts → ReadCounts
after_asking room c = record c { reads = up c.reads; room = up_by room c.room }

-- after a read that returned n bytes, which is 0 at the end
abbrev pub after_read : ℕ → ℕ → ReadCounts → ReadCounts
after_read room n c = record (after_asking room c) { bytes = up_by n c.bytes; empty_reads = up_at_zero n c.empty_reads }

-- after a read that was interrupted
abbrev pub after_interrupted_read : ℕ → ReadCounts → ReadCounts
after_interrupted_read room c = record (after_asking room c) { interrupted_reads = up c.interrupted_reads }

-- after a read that failed otherwise
abbrev pub after_failed_read : ℕ → ReadCounts → ReadCounts
after_failed_read room c = record (after_asking room c) { failed_reads = up c.failed_reads }

-- neither a write nor a flush was requested
abbrev pub no_writes : WriteCounts
no_writes = record {
  writes = 0;
  interrupted_writes = 0;
  failed_writes = 0;
  empty_writes = 0;
  flushes = 0;
  interrupted_flushes = 0;
  failed_flushes = 0;
  flushed_writes = 0;
}

-- after a write that took n bytes of a piece of `size`. A write that takes none of a piece that is not empty is an
-- empty one.
abbrev pub after_write : ℕ → ℕ → WriteCounts → WriteCounts
after_write size n c = record c {
  writes = up c.writes;
  empty_writes = if size == 0 then c.empty_writes else up_at_zero n c.empty_writes;
}

-- after a write that was interrupted
abbrev pub after_interrupted_write : WriteCounts → WriteCounts
after_interrupted_write c = record c { writes = up c.writes; interrupted_writes = up c.interrupted_writes }

-- after a write that failed otherwise
abbrev pub after_failed_write : WriteCounts → WriteCounts
after_failed_write c = record c { writes = up c.writes; failed_writes = up c.failed_writes }

-- after a flush, which comes after all writes so far
abbrev pub after_flush : WriteCounts → WriteCounts
after_flush c = record c { flushes = up c.flushes; flushed_writes = c.writes }

-- after a flush that was interrupted
abbrev pub after_interrupted_flush : WriteCounts → WriteCounts
after_interrupted_flush c = record (after_flush c) { interrupted_flushes = up c.interrupted_flushes }

-- after a flush that failed otherwise
abbrev pub after_failed_flush : WriteCounts → WriteCounts
after_failed_flush c = record (after_flush c) { failed_flushes = up c.failed_flushes }
