use Rattle.std.proofs.Common.{◌∙◌, ap, sym, subst, ◌-◌, ◌∷◌, length, drop, List}
use Rattle.workspaces.specs.Rows.{IsRow}
use Rattle.workspaces.proofs.RowSteps.{last_pieces}
use Rattle.workspaces.proofs.glob_matching.matches_pieces.Goals as goal

pub loop-k-preserved : goal.loop-k-preserved
loop-k-preserved g c =
    let items = c.args.items.now in
    let k = c.loop-k.k in
    let x = c.index-items-items.result in
    let fewer = drop (length items - k) items in
    let row = c.add_item.new.row.items in
    subst (λ (zs : List g.row.T.Denot). IsRow g.P.Piece.is_many g.P.Piece.matches c.args.pieces.now zs row)
    (sym (last_pieces items k x c.loop-k-test.true ∙ ap (λ z. z ∷ fewer) (sym c.index-items-items.is)))
    (c.in_ok-add_item.ensures.row fewer c.loop-k.invariant)
