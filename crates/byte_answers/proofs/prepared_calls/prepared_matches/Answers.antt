use Rattle.std.proofs.Common.{◌≡◌, sym, subst, Bool, arith}
use Rattle.byte_answers.specs.Flat.{IsFlatForm}
use Rattle.byte_answers.specs.Prepared.{IsPreparedMatch}
use Rattle.byte_answers.proofs.Standing.{match_of, no_match}
use Rattle.byte_answers.proofs.prepared_calls.prepared_matches.Goals as goal

pub returns-in-Ok-Some-clause-done : goal.returns-in-Ok-Some-clause-done
returns-in-Ok-Some-clause-done c = λ done.
    let facts = c.in-Some.facts in
    let same : c.answered.result.holds ≡ c.in-Ok-Some.holds = λ i. (c.answered.ensures i).holds in
    subst (λ (b : Bool). IsPreparedMatch c.args.flat.now c.args.name.now c.args.prepared.now b) (sym same)
    (match_of c.args.flat.now c.args.name.now c.args.prepared.now facts.texts.now facts.index.now facts.filter.now
    c.in-Ok-Some.holds c.in-Some.ensures.1 c.in-Some.ensures.0 c.in-Some.ensures.2
    (λ i. omega (arith, c.type_inv.prepared i))
    (λ s means. let found = c.in-Ok-Some.ensures s means in rw c.in-Ok-Some.field-0-is at found))

pub returns-in-Ok-None-clause-not_flat : goal.returns-in-Ok-None-clause-not_flat
returns-in-Ok-None-clause-not_flat c = λ code argument.
    let facts = c.in-Some.facts in
    no_match {P = IsFlatForm c.args.flat.now → ⊥} c.args.prepared.now facts.texts.now facts.index.now facts.filter.now
    c.in-Some.ensures.0 c.in-Some.ensures.2 (λ i. omega (arith, c.type_inv.prepared i))
    (λ s means. let never = c.in-Ok-None.ensures s means in rw c.in-Ok-None.field-0-is at never)
