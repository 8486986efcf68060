use Rattle.std.proofs.Common.{◌-◌, length, drop}
use Rattle.workspaces.specs.Rows.{IsRow}
use Rattle.workspaces.proofs.glob_matching.matches_pieces.Given as goal

abbrev pub invariant-loop-k : goal.invariant-loop-k
invariant-loop-k g l =
    IsRow g.P.Piece.is_many g.P.Piece.matches l.pieces (drop (length l.items - l.k) l.items) l.row.items
