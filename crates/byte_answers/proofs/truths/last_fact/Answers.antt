use Rattle.std.proofs.Common.{sym, ap, refl, length, arith, inl, inr, ◌+◌, ◌^◌, ◌++◌}
use Rattle.std.proofs.lemmas.Bool.{cases_lt}
use Rattle.std.proofs.lemmas.List.{length-append}
use Rattle.byte_answers.specs.Flat.{first_of, second_of}
use Rattle.byte_answers.proofs.Pieces.{value_numbers}
use Rattle.byte_answers.proofs.FactRecords.{fact_read, too_long}
use Rattle.byte_answers.proofs.truths.last_fact.Goals as goal

pub returns-in_err-size : goal.returns-in_err-size
returns-in_err-size c =
    rw c.from_residual.ensures (λ front value same.
    let e = c.args.ending in
    elim (cases_lt (e.a + e.b) (2 ^ 64)) [
      | inl small ↦ absurd (c.in_err-size.ensures small)
      | inr big ↦
          too_long e.before.now front e.a e.b e.tag value (omega arith) (omega arith) (omega arith)
          (omega (arith, big)) same
    ])

pub returns-in_err-before : goal.returns-in_err-before
returns-in_err-before c =
    rw c.from_residual-in_err-before.ensures (λ front value same.
    let e = c.args.ending in
    too_long e.before.now front e.a e.b e.tag value (omega arith) (omega arith) (omega arith)
    (omega (arith, c.in_err-before.ensures, c.in_ok-size.ensures.1)) same)

pub returns-in_err-value_mark : goal.returns-in_err-value_mark
returns-in_err-value_mark c =
    rw c.from_residual-in_err-value_mark.ensures (λ front value same.
    let e = c.args.ending in
    let s = value_numbers e.before.now front e.a e.b e.tag value (omega arith) (omega arith) (omega arith) same in
    c.in_err-value_mark.ensures value (sym s.tag) (sym s.second)
    (omega (
      arith,
      ap length s.front,
      length-append front (first_of value ++ second_of value),
      length-append (first_of value) (second_of value),
      s.second,
    )))

pub returns : goal.returns
returns c =
    let e = c.args.ending in
    fact_read e.before.now c.in_ok-before.before.now (record {
      texts = c.in_ok-before.texts;
      name_size = e.a;
      value_mark = c.in_ok-value_mark.value_mark;
    }) e.a e.b e.tag c.in_ok-before.ensures.0 (omega (arith, c.in_ok-before.ensures.1, c.in_ok-size.ensures.1)) refl
    c.in_ok-value_mark.ensures
