use Rattle.std.proofs.Common.{arith}
use Rattle.byte_answers.proofs.FactRecords.{pair_mark, name_marked}
use Rattle.byte_answers.proofs.truths.mark_of.Goals as goal

pub returns-then-tag-ge-PAIR : goal.returns-then-tag-ge-PAIR
returns-then-tag-ge-PAIR c =
    pair_mark c.args.tag c.args.size c.checked_add.result (omega arith) (omega arith) c.checked_add.ensures

pub returns-then-size-eq0 : goal.returns-then-size-eq0
returns-then-size-eq0 c = λ first second long.
    name_marked c.args.tag c.args.size first second (omega arith) (omega arith) long
