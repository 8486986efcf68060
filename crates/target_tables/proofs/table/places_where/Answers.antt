use Rattle.std.proofs.Common.{◌≡◌, ◌∙◌, sym, ap, map, ℕ, Vec, Global}
use Rattle.cargo_platform.specs.Trees.{condition_of}
use Rattle.cargo_platform.specs.Facts.{fact_set, truth_of_condition}
use Rattle.target_tables.specs.Rows.{Row, row_of, holds_at}
use Rattle.target_tables.proofs.Places.{row_read, one_place, no_place}
use Rattle.target_tables.proofs.table.places_where.Goals as goal
use Rattle.target_tables.proofs.table.places_where.Goals.{then-matches+in_ok-push, else-matches}

pub rows-preserved : goal.rows-preserved
rows-preserved c =
    let condition = condition_of c.args.platform.now in
    let holds = holds_at (map row_of c.args.rows.now) condition in
    let read = row_read c.args.rows.now c.rows.i c.index-rows-i.result c.rows-test.true c.index-rows-i.is in
    let is : holds_at (map row_of c.args.rows.now) (condition_of c.args.platform.now) c.rows.i ≡ c.matches.result =
    ap (λ (r : Row). truth_of_condition r.name (fact_set r.facts) (condition_of c.args.platform.now)) read
    ∙ sym c.matches.ensures.truth in
    let items = λ (v : Vec ℕ Global). v.items in
    elim c.if-matches.branch [
      | then-matches+in_ok-push w ↦
          one_place holds c.rows.i c.rows.places.items c.if-matches.places.items (is ∙ w.if-matches.true)
          c.rows.invariant
          (ap items w.places-is ∙ w.in_ok-push.ensures.items)
      | else-matches w ↦
          no_place holds c.rows.i c.rows.places.items c.if-matches.places.items (is ∙ w.if-matches.false)
          c.rows.invariant
          (ap items w.places-is)
    ]
