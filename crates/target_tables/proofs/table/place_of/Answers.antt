use Rattle.std.proofs.Common.{◌≡◌, ◌∙◌, sym, ap, true≢false, below_more, map}
use Rattle.std.proofs.lemmas.Slice.Eq.{bytes_eq-Decides}
use Rattle.target_tables.specs.Rows.{Row, row_of, name_at}
use Rattle.target_tables.proofs.Places.{row_read}
use Rattle.target_tables.proofs.table.place_of.Goals as goal

pub returns-then-eq-clause-found : goal.returns-then-eq-clause-found
returns-then-eq-clause-found c =
    let read = row_read c.args.rows.now c.rows.i c.index-rows-i.result c.rows-test.true c.index-rows-i.is in
    let same : c.as_str.result.now ≡ c.args.name.now =
    (bytes_eq-Decides c.as_str.result.now c.args.name.now).0 (sym c.eq.ensures ∙ c.if-eq.true) in
    let name : name_at (map row_of c.args.rows.now) c.rows.i ≡ (row_of c.index-rows-i.result).name =
    ap (λ (r : Row). r.name) read in
    cc (name, same, c.as_str.ensures.value)

pub rows-preserved : goal.rows-preserved
rows-preserved c =
    let read = row_read c.args.rows.now c.rows.i c.index-rows-i.result c.rows-test.true c.index-rows-i.is in
    let name : name_at (map row_of c.args.rows.now) c.rows.i ≡ (row_of c.index-rows-i.result).name =
    ap (λ (r : Row). r.name) read in
    below_more _ _ c.rows.invariant
    (λ is.
    let same : c.as_str.result.now ≡ c.args.name.now = cc (is, c.as_str.ensures.value) in
    true≢false
    (sym ((bytes_eq-Decides c.as_str.result.now c.args.name.now).1 same) ∙ sym c.eq.ensures ∙ c.if-eq.false))
