use Rattle.std.proofs.Common.{arith}
use Rattle.byte_answers.proofs.Pieces.{piece_sizes, no_value, no_group}
use Rattle.byte_answers.proofs.unflat.last_record.Goals as goal

pub returns-in_default : goal.returns-in_default
returns-in_default c = λ front p texts number same.
    omega (arith, (piece_sizes c.args.bytes.now front p same).long, c.in_default.ensures)

pub returns-in-None : goal.returns-in-None
returns-in-None c = λ front p texts number same.
    let e = c.in-Some.ending in
    no_value c.args.bytes.now e.before.now front e.a e.b e.tag p c.in-Some.ensures.0 c.if-ending-lt-TRUE.true
    (rw c.in-None.is at c.in_ok-last.ensures) texts same

pub returns-in-None-group_of : goal.returns-in-None-group_of
returns-in-None-group_of c = λ front p texts number same.
    let e = c.in-Some.ending in
    no_group c.args.bytes.now e.before.now front e.a e.b e.tag p (omega arith) c.in-Some.ensures.1
    c.in-Some.ensures.2 number c.in-Some.ensures.0 c.if-ending-lt-TRUE.false c.in-None-group_of.ensures same
