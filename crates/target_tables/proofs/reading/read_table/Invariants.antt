-- The lines so far are read.
use Rattle.std.proofs.Common.{◌≤◌, ◌+◌, map, length}
use denote.Text.{Utf8}
use denote.Shadow.{shadow}
use Rattle.cargo_platform.specs.Lines.{lines_of}
use Rattle.target_tables.specs.Rows.{row_of}
use Rattle.target_tables.specs.Blocks.{AreRead}
use Rattle.target_tables.proofs.reading.read_table.Given as goal

abbrev pub invariant-blocks-2 : goal.invariant-blocks-2
invariant-blocks-2 l = record {
  read : AreRead (lines_of l.text) (map row_of l.rows.items) l.passed (lines_of l.rest);
  within : l.passed + length l.rest ≤ length l.text;
  text : shadow (Utf8 l.rest);
}

abbrev pub decreases-blocks-2 : goal.decreases-blocks-2
decreases-blocks-2 l = length l.rest
