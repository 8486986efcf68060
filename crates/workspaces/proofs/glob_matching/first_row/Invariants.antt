use Rattle.std.proofs.Common.{◌≡◌, ◌+◌, ◌-◌, ◌≤◌, ℕ, [], false, length, get_or, drop}
use Rattle.std.specs.Prelude.{◌↔◌, IsTrue}
use Rattle.workspaces.specs.Stretches.{IsMatched}
use Rattle.workspaces.proofs.glob_matching.first_row.Given as goal

abbrev pub invariant-loop-k : goal.invariant-loop-k
invariant-loop-k g l = record {
  long : length l.row.items ≡ l.k + 1;
  each : (j : ℕ) → j ≤ l.k → IsTrue (get_or l.row.items j false)
      ↔ IsMatched g.P.Piece.is_many g.P.Piece.matches (drop (length l.pieces - j) l.pieces) [];
  last : l.before ≡ get_or l.row.items l.k false;
}
