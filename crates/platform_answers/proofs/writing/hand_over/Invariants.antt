-- Each write so far took a byte or was interrupted, and what was taken is a beginning of the text.
use Rattle.std.proofs.Common.{◌≡◌, ◌≤◌, ◌+◌, length, take}
use Rattle.std.specs.Io.KnownBytes.{Appends}
use Rattle.platform_answers.specs.Counts.{write_counts, writer_of}
use Rattle.platform_answers.specs.Writing.{failures}
use Rattle.platform_answers.proofs.writing.hand_over.Given as goal

abbrev pub invariant-loop-turn : goal.invariant-loop-turn
invariant-loop-turn g l = record {
  writes : (write_counts l.output).writes ≡ l._turn;
  unfailed : failures (write_counts l.output) ≡ 0;
  unflushed : (write_counts l.output).flushes ≡ 0;
  within : l.taken ≤ length l.text;
  each : l._turn ≤ l.taken + (write_counts l.output).interrupted_writes;
  interrupted : (write_counts l.output).interrupted_writes ≤ l._turn;
  written : Appends (g.W.Write.contents (writer_of l.initial.output)) (g.W.Write.contents (writer_of l.output))
      (take l.taken l.text);
}
