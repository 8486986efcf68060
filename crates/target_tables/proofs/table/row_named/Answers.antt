use Rattle.std.proofs.Common.{◌<◌, ◌∙◌, sym, ap, map, length, arith}
use Rattle.std.proofs.lemmas.List.{length-map}
use Rattle.target_tables.specs.Rows.{Row, row_of}
use Rattle.target_tables.proofs.Places.{row_read}
use Rattle.target_tables.proofs.table.row_named.Goals as goal

pub returns-in-Some-clause-found : goal.returns-in-Some-clause-found
returns-in-Some-clause-found c =
    let rows = c.args.rows.now in
    let read = row_read rows c.in-Some.place c.index-rows-place.result c.in-Some.ensures.within c.index-rows-place.is in
    let inside : c.in-Some.place < length (map row_of c.args.rows.now) =
    omega (arith, c.in-Some.ensures.within, length-map c.args.rows.now row_of) in
    (c.in-Some.place, inside, read, sym (ap (λ (r : Row). r.name) read) ∙ c.in-Some.ensures.found)
