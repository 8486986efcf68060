-- The lines so far are empty.
use Rattle.std.proofs.Common.{◌≡◌, ◌≤◌, ◌+◌, ◌++◌, List, ℕ, length}
use denote.Text.{Utf8}
use denote.Shadow.{shadow}
use Rattle.cargo_platform.specs.Lines.{lines_of}
use Rattle.target_tables.specs.Rows.{AreEmpty}
use Rattle.target_tables.proofs.blocks.skip_blank_lines.Given as goal

abbrev pub invariant-lines : goal.invariant-lines
invariant-lines l = record {
  passed : (gap : List (List ℕ)) × AreEmpty gap × (length gap ≡ l.many) × (lines_of l.text ≡ gap ++ lines_of l.rest);
  within : l.many + length l.rest ≤ length l.text;
  text : shadow (Utf8 l.rest);
}

abbrev pub decreases-lines : goal.decreases-lines
decreases-lines l = length l.rest
