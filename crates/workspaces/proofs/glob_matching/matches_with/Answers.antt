use Rattle.std.proofs.Common.{rules, true≢false, inl, inr, sym, ◌∙◌}
use Rattle.workspaces.proofs.Steps.{with_many, with_one}
use Rattle.workspaces.proofs.glob_matching.matches_with.Goals as goal

pub returns-then-fewer_pieces : goal.returns-then-fewer_pieces
returns-then-fewer_pieces g c ps xs pieces items fewer =
    with_many g.P.Piece.is_many g.P.Piece.matches c.args.piece.now c.args.item.now c.args.fewer_pieces
    c.args.fewer_items
    c.args.fewer_pieces (search rules) (λ h. inl h) (λ h. h) (λ h. c.if-fewer_pieces.true) ps xs pieces items

pub returns-else-fewer_pieces : goal.returns-else-fewer_pieces
returns-else-fewer_pieces g c ps xs pieces items fewer =
    with_many g.P.Piece.is_many g.P.Piece.matches c.args.piece.now c.args.item.now c.args.fewer_pieces
    c.args.fewer_items
    c.args.fewer_items (search rules) (λ h. inr h) (λ h. absurd (true≢false (sym h ∙ c.if-fewer_pieces.false))) (λ h. h)
    ps xs pieces items

pub returns-then-matches : goal.returns-then-matches
returns-then-matches g c ps xs pieces items fewer =
    with_one g.P.Piece.is_many g.P.Piece.matches c.args.piece.now c.args.item.now c.args.fewer c.args.fewer
    (search rules) (λ h. (c.in_ok-matches.ensures.0 c.if-matches.true, h)) (λ t h. h) ps xs fewer

pub returns-else-matches : goal.returns-else-matches
returns-else-matches g c ps xs pieces items fewer =
    with_one g.P.Piece.is_many g.P.Piece.matches c.args.piece.now c.args.item.now c.args.fewer c.in_ok-matches.matches
    (search rules) (λ h. absurd (true≢false (sym h ∙ c.if-matches.false)))
    (λ t h. c.in_ok-matches.ensures.1 t) ps xs fewer
