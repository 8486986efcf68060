use Rattle.std.proofs.Common.{below_more, rules, arith, ◌≡◌, ◌≢◌}
use Rattle.former_names.proofs.Found.{is_fact, no_fact, same_text, other_text, at_each}
use Rattle.former_names.proofs.rows.find_fact.Goals as goal
use Rattle.former_names.proofs.rows.find_fact.Goals.{else-eq-via-then-eq+else-eq-2, else-eq-via-else-eq}

pub returns-then-eq-2-clause-found : goal.returns-then-eq-2-clause-found
returns-then-eq-2-clause-found c =
    is_fact c.args.rows.now c.args.key.now c.args.value.now c.rows.row-index _ _ c.rows-test.true
    (same_text _ _ _ c.eq.ensures c.if-eq.true) (same_text _ _ _ c.eq-then-eq.ensures c.if-eq-2.true)
    c.release.ensures c.release-then-eq-2.ensures

pub rows-preserved : goal.rows-preserved
rows-preserved c =
    below_more _ _ c.rows.invariant
    (at_each (λ row. row.0.now ≡ c.args.key.now → row.1.now ≢ c.args.value.now) c.args.rows.now c.rows.row-index _
    c.rows-test.true
    (elim c.else-eq.branch [
      | else-eq-via-then-eq+else-eq-2 w ↦ λ _. other_text _ _ _ w.eq-then-eq.ensures w.if-eq-2.false
      | else-eq-via-else-eq w ↦ λ same. absurd (other_text _ _ _ c.eq.ensures w.if-eq.false same)
    ]))

pub returns-clause-none : goal.returns-clause-none
returns-clause-none c =
    no_fact c.args.rows.now c.args.key.now c.args.value.now
    (λ k l d. c.rows.invariant k (omega (arith, l, c.rows-test.false)) d)
