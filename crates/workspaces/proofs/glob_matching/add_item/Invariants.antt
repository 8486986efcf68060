use Rattle.std.proofs.Common.{◌≡◌, ◌+◌, ◌-◌, ◌<◌, ◌∷◌, ℕ, List, false, length, get_or, drop}
use Rattle.std.specs.Prelude.{◌↔◌, IsTrue}
use Rattle.workspaces.specs.Stretches.{IsMatched}
use Rattle.workspaces.specs.Rows.{IsRow}
use Rattle.workspaces.proofs.glob_matching.add_item.Given as goal

abbrev pub invariant-loop-k : goal.invariant-loop-k
invariant-loop-k g l = record {
  long : length l.row.items ≡ length l.pieces + 1;
  each : (xs : List g.row.T.Denot) → IsRow g.P.Piece.is_many g.P.Piece.matches l.pieces xs l.fn.row.items
      → (j : ℕ) → j < l.k + 1 → IsTrue (get_or l.row.items j false)
      ↔ IsMatched g.P.Piece.is_many g.P.Piece.matches (drop (length l.pieces - j) l.pieces) (l.item ∷ xs);
  left : (j : ℕ) → l.k < j → get_or l.row.items j false ≡ get_or l.fn.row.items j false;
  last : l.before ≡ get_or l.fn.row.items l.k false;
}
