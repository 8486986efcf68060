use Rattle.std.proofs.Common.{sym, subst, ℕ, List}
use Rattle.std.specs.FinSet.{contains}
use Rattle.byte_answers.specs.Prepared.{Admits, entry_of, fact_texts, HasFactOf}
use Rattle.byte_answers.proofs.Entries.{next_entry, none_left, is_false, others, last_one, entry_shorter}
use Rattle.byte_answers.proofs.prepared.has.Goals as goal

pub returns-then-not-admits : goal.returns-then-not-admits
returns-then-not-admits c = λ s q means sought.
    let filter = c.args.facts.filter.now in
    is_false (contains s q) (Admits filter (fact_texts q) × HasFactOf c.args.facts.texts.now means.0 q) (means.1.2 q)
    (λ has. c.admits.ensures.rejected c.if-not-admits.true
    (subst (λ (z : List ℕ). Admits filter z) (sym sought.0) has.0))

pub entries-init : goal.entries-init
entries-init c = λ s q means sought.
    let admitted =
    subst (λ (z : List ℕ). Admits c.args.facts.filter.now z) sought.0
    (c.admits.ensures.admitted c.if-not-admits.false) in (
      means.0,
      (means.1.0, means.1.1, (λ is. ((means.1.2 q).0 is).1, λ has. (means.1.2 q).1 (admitted, has))),
    )

pub returns-then-is_fact : goal.returns-then-is_fact
returns-then-is_fact c = λ s q means sought.
    let l = c.in-Some.last in
    let h = c.entries.invariant s q means sought in
    let n = next_entry c.entries.left.now l.before.now (entry_of l) h.0 c.in-Some.ensures.1 h.1.0 h.1.1
    c.in-Some.ensures.0 in
    last_one (contains s q) c.args.facts.texts.now (entry_of l) h.0 n.0 q n.1.2
    (c.is_fact.ensures.found q sought c.if-is_fact.true) h.1.2

pub entries-smaller : goal.entries-smaller
entries-smaller c =
    entry_shorter c.entries.left.now c.in-Some.last.before.now (entry_of c.in-Some.last) c.in-Some.ensures.0

pub entries-preserved : goal.entries-preserved
entries-preserved c = λ s q means sought.
    let l = c.in-Some.last in
    let h = c.entries.invariant s q means sought in
    let n = next_entry c.entries.left.now l.before.now (entry_of l) h.0 c.in-Some.ensures.1 h.1.0 h.1.1
    c.in-Some.ensures.0 in (
      n.0,
      (
        n.1.0,
        n.1.1,
        others (contains s q) c.args.facts.texts.now (entry_of l) h.0 n.0 q n.1.2
            (c.is_fact.ensures.absent q sought c.if-is_fact.false) h.1.2,
      ),
    )

pub returns : goal.returns
returns c = λ s q means sought.
    let h = c.entries.invariant s q means sought in
    is_false (contains s q) (HasFactOf c.args.facts.texts.now h.0 q) h.1.2
    (none_left c.args.facts.texts.now c.entries.left.now h.0 q h.1.1 c.in_default.ensures)
