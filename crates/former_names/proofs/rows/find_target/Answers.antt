use Rattle.std.proofs.Common.{below_more, rules, arith, ◌≢◌}
use Rattle.former_names.proofs.Found.{is_target, no_target, same_text, other_text, at_each}
use Rattle.former_names.proofs.rows.find_target.Goals as goal

pub returns-then-eq-clause-found : goal.returns-then-eq-clause-found
returns-then-eq-clause-found c =
    is_target c.args.rows.now c.args.name.now c.rows.row-index _ _ c.rows-test.true
    (same_text _ _ _ c.eq.ensures c.if-eq.true) c.release.ensures c.release-then-eq.ensures

pub rows-preserved : goal.rows-preserved
rows-preserved c =
    below_more _ _ c.rows.invariant
    (at_each (λ row. row.0.now ≢ c.args.name.now) c.args.rows.now c.rows.row-index _ c.rows-test.true
    (other_text _ _ _ c.eq.ensures c.if-eq.false))

pub returns-clause-none : goal.returns-clause-none
returns-clause-none c =
    no_target c.args.rows.now c.args.name.now (λ k l d. c.rows.invariant k (omega (arith, l, c.rows-test.false)) d)
