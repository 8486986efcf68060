use Rattle.std.proofs.Common.{below_more, rules, arith, ◌≢◌}
use Rattle.former_names.proofs.Found.{is_renamed, not_renamed, same_text, other_text, at_each}
use Rattle.former_names.proofs.rows.find_renamed.Goals as goal

pub returns-then-eq-clause-found : goal.returns-then-eq-clause-found
returns-then-eq-clause-found c =
    is_renamed c.args.rows.now c.args.name.now c.rows.row-index _ c.rows-test.true
    (same_text _ _ _ c.eq.ensures c.if-eq.true)

pub rows-preserved : goal.rows-preserved
rows-preserved c =
    below_more _ _ c.rows.invariant
    (at_each (λ row. row.0.now ≢ c.args.name.now) c.args.rows.now c.rows.row-index _ c.rows-test.true
    (other_text _ _ _ c.eq.ensures c.if-eq.false))

pub returns-clause-none : goal.returns-clause-none
returns-clause-none c =
    not_renamed c.args.rows.now c.args.name.now (λ k l d. c.rows.invariant k (omega (arith, l, c.rows-test.false)) d)
