use Rattle.std.proofs.Common.{sym, ◌∙◌, ap, length, arith}
use Rattle.byte_answers.proofs.Pieces.{name_numbers}
use Rattle.byte_answers.proofs.truths.is_target.Goals as goal
use Rattle.byte_answers.proofs.truths.is_target.Goals.{then-ending-ne0-via-then-ending-ne0}
use Rattle.byte_answers.proofs.truths.is_target.Goals.{then-ending-ne0-via-else-ending-ne0+then-ending}

pub returns-then-ending-ne0 : goal.returns-then-ending-ne0
returns-then-ending-ne0 c = λ target same.
    let e = c.args.ending in
    let s = name_numbers e.before.now target e.a e.b e.tag (omega arith) (omega arith) (omega arith) same in
    elim c.then-ending-ne0.branch [
      | then-ending-ne0-via-then-ending-ne0 w ↦ w.if-ending-ne0.true s.second
      | then-ending-ne0-via-else-ending-ne0+then-ending w ↦
          w.if-ending.true (s.first ∙ sym (ap length s.front))
    ]
