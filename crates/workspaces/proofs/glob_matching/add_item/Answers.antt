use Rattle.std.proofs.Common.{◌≡◌, ◌+◌, ◌-◌, ◌<◌, ◌≢◌, ◌∷◌, ◌∙◌, Bool, List, false, length, drop}
use Rattle.std.proofs.Common.{get_or, ap, sym, subst, arith}
use Rattle.std.proofs.lemmas.List.{get_or_default, length-set, get_or-set_other}
use Rattle.std.specs.Prelude.{◌↔◌, IsTrue}
use Rattle.workspaces.specs.Stretches.{IsMatched}
use Rattle.workspaces.proofs.RowSteps.{last_pieces, written}
use Rattle.workspaces.proofs.glob_matching.add_item.Goals as goal

pub loop-k-preserved : goal.loop-k-preserved
loop-k-preserved g c =
    let m = g.P.Piece.is_many in
    let t = g.P.Piece.matches in
    let ps = c.args.pieces.now in
    let x = c.args.item.now in
    let k = c.loop-k.k in
    let p = c.index-pieces-pieces.result in
    let row = c.loop-k.row.items in
    let old = c.args.row.now.items in
    let long = c.loop-k.invariant.long in
    let b = c.in_ok-row.field-0 in
    let lasts = drop (length ps - k) ps in
    let fits : k + 1 < length row = omega (arith, long, c.loop-k-test.true) in
    let within : k < length row = omega (arith, fits) in
    let all : drop (length ps - (k + 1)) ps ≡ p ∷ lasts =
    last_pieces ps k p c.loop-k-test.true ∙ ap (λ z. z ∷ lasts) (sym c.index-pieces-pieces.is) in
    let here : c.index.result.now ≡ get_or row k false =
    c.index.ensures ∙ get_or_default row k c.index.result.now false within in
    let was : c.index-was.result.now ≡ get_or old (k + 1) false =
    c.index-was.ensures ∙ get_or_default row (k + 1) c.index-was.result.now false fits
    ∙ c.loop-k.invariant.left (k + 1) (omega arith) in
    record {
      long = length-set row (k + 1) b ∙ long;
      each = λ xs rows j inside.
          written row (k + 1) b (λ j. IsMatched m t (drop (length ps - j) ps) (x ∷ xs)) fits
          (λ i below. c.loop-k.invariant.each xs rows i below)
          (subst (λ (qs : List g.row.P.Denot). IsTrue b ↔ IsMatched m t qs (x ∷ xs)) (sym all)
          (c.in_ok-row.ensures lasts xs
          (subst (λ (z : Bool). IsTrue z ↔ IsMatched m t lasts (x ∷ xs)) (sym here)
          (c.loop-k.invariant.each xs rows k (omega arith)))
          (subst (λ (z : Bool). IsTrue z ↔ IsMatched m t (p ∷ lasts) xs) (sym was)
          (subst (λ (qs : List g.row.P.Denot). IsTrue (get_or old (k + 1) false) ↔ IsMatched m t qs xs) all
          (rows.each (k + 1) (omega (arith, c.loop-k-test.true)))))
          (subst (λ (z : Bool). IsTrue z ↔ IsMatched m t lasts xs) (sym c.loop-k.invariant.last)
          (rows.each k (omega (arith, c.loop-k-test.true))))))
          j (omega (arith, inside));
      left = λ j past.
          let other : j ≢ k + 1 = λ e. absurd (omega (arith, past, e)) in
          get_or-set_other row (k + 1) j b false other ∙ c.loop-k.invariant.left j (omega (arith, past));
      last = was;
    }
