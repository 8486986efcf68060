-- The front has the lines so far.
use Rattle.std.proofs.Common.{◌≡◌, ◌≤◌, ◌+◌, ◌++◌, List, ℕ, length, string_bytes}
use denote.Text.{Utf8}
use denote.Shadow.{shadow}
use Rattle.std.specs.List.{AllByRecursion}
use Rattle.cargo_platform.specs.Lines.{lines_of, IsUnbroken, ended}
use Rattle.target_tables.specs.Rows.{AreFilled}
use Rattle.target_tables.proofs.blocks.take_block.Given as goal

abbrev pub invariant-lines : goal.invariant-lines
invariant-lines l = record {
  passed : (texts : List (List ℕ)) × AllByRecursion IsUnbroken texts × AreFilled texts
      × (string_bytes l.front ≡ ended texts) × (lines_of l.text ≡ texts ++ lines_of l.rest)
      × (length texts + length l.rest ≤ length l.text);
  text : shadow (Utf8 l.rest);
}

abbrev pub decreases-lines : goal.decreases-lines
decreases-lines l = length l.rest
