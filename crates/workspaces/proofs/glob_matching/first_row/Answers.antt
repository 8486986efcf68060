use Rattle.std.proofs.Common.{◌-◌, Bool, [], length, drop, sym, subst, arith}
use Rattle.std.specs.Prelude.{◌↔◌, IsTrue}
use Rattle.workspaces.specs.Stretches.{IsMatched}
use Rattle.workspaces.proofs.RowSteps.{pushed, none_more, end_of}
use Rattle.workspaces.proofs.glob_matching.first_row.Goals as goal

pub loop-k-preserved : goal.loop-k-preserved
loop-k-preserved g c =
    let m = g.P.Piece.is_many in
    let t = g.P.Piece.matches in
    let ps = c.args.pieces.now in
    let k = c.loop-k.k in
    let row = c.loop-k.row.items in
    let b = c.matches_none_with-before.result in
    let more = c.in_ok-push-2.ensures.items in
    let end = end_of row c.push-in-loop-k.new.self.items b k more c.loop-k.invariant.long in
    record {
      long = end.0;
      each = pushed row c.push-in-loop-k.new.self.items b k (λ j. IsMatched m t (drop (length ps - j) ps) []) more
          c.loop-k.invariant.long c.loop-k.invariant.each
          (none_more m t ps k c.index-pieces-pieces.result c.loop-k.before b c.loop-k-test.true c.index-pieces-pieces.is
          (subst (λ (z : Bool). IsTrue z ↔ IsMatched m t (drop (length ps - k) ps) []) (sym c.loop-k.invariant.last)
          (c.loop-k.invariant.each k (omega arith))) c.matches_none_with-before.ensures);
      last = end.1;
    }
