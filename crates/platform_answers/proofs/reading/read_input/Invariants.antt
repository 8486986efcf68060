-- No read failed, none met the end, and the bytes so far are those that the reader gave.
use Rattle.std.proofs.Common.{◌≡◌, ◌≤◌, ◌*◌, length}
use Rattle.std.specs.Io.KnownBytes.{Consumes}
use Rattle.platform_answers.specs.Counts.{read_counts, reader_of}
use Rattle.platform_answers.proofs.reading.read_input.Given as goal

abbrev pub invariant-loop-turn : goal.invariant-loop-turn
invariant-loop-turn g l = record {
  reads : (read_counts l.input).reads ≡ l._turn;
  room : (read_counts l.input).room ≡ 4096 * l._turn;
  failed : (read_counts l.input).failed_reads ≡ 0;
  empty_reads : (read_counts l.input).empty_reads ≡ 0;
  bytes : (read_counts l.input).bytes ≡ length l.bytes.items;
  short : length l.bytes.items ≤ 1_048_576;
  brought : Consumes (g.R.Read.remaining (reader_of l.initial.input))
      (g.R.Read.remaining (reader_of l.input)) l.bytes.items;
}
