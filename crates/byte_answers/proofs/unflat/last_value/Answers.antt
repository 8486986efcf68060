use Rattle.std.proofs.Common.{sym, ◌∙◌, arith}
use Rattle.byte_answers.specs.Flat.{first_of, second_of}
use Rattle.byte_answers.proofs.Pieces.{value_numbers, same_texts}
use Rattle.byte_answers.proofs.unflat.last_value.Goals as goal

pub returns-in_default : goal.returns-in_default
returns-in_default c = λ front value texts same.
    let e = c.args.ending in
    let s = value_numbers e.before.now front e.a e.b e.tag value (omega arith) (omega arith) (omega arith) same in
    c.in_default.ensures front (first_of value) (second_of value) texts.0 texts.1 (sym s.first) (sym s.second) s.front

pub returns-in-None : goal.returns-in-None
returns-in-None c = λ front value texts same.
    let e = c.args.ending in
    let t = c.in-Some.texts in
    let s = value_numbers e.before.now front e.a e.b e.tag value (omega arith) (omega arith) (omega arith) same in
    let h = same_texts front (first_of value) (second_of value) t.before.now t.first.now t.second.now
    (sym s.front ∙ c.in-Some.ensures.0) (sym s.first ∙ sym c.in-Some.ensures.1)
    (sym s.second ∙ sym c.in-Some.ensures.2) in
    (rw c.in-None.is at c.in_ok-value.ensures) value h.2 (sym s.tag)
