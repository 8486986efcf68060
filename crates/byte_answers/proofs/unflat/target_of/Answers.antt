use Rattle.std.proofs.Common.{sym, ◌∙◌, ap, arith, [], length}
use Rattle.std.proofs.lemmas.List.{length-append}
use Rattle.byte_answers.proofs.Pieces.{name_numbers, not_zero}
use Rattle.byte_answers.proofs.unflat.target_of.Goals as goal

pub returns-then-ending-ne0 : goal.returns-then-ending-ne0
returns-then-ending-ne0 c = λ name text same.
    let e = c.args.ending in
    let s = name_numbers e.before.now name e.a e.b e.tag (omega arith) (omega arith) (omega arith) same in
    c.if-ending-ne0.true s.second

pub returns-in_default : goal.returns-in_default
returns-in_default c = λ name text same.
    let e = c.args.ending in
    let s = name_numbers e.before.now name e.a e.b e.tag (omega arith) (omega arith) (omega arith) same in
    c.in_default.ensures [] name text (sym s.first) s.front

pub returns-then-not-is_empty : goal.returns-then-not-is_empty
returns-then-not-is_empty c = λ name text same.
    let e = c.args.ending in
    let s = name_numbers e.before.now name e.a e.b e.tag (omega arith) (omega arith) (omega arith) same in
    not_zero (length c.in-Some.before.now) c.if-not-is_empty.ensures
    (omega (
      arith,
      ap length (sym s.front ∙ c.in-Some.ensures.0),
      length-append c.in-Some.before.now c.in-Some.name.now,
      c.in-Some.ensures.1,
      s.first,
    ))
