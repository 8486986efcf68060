use Rattle.std.proofs.Common.{arith}
use Rattle.byte_answers.proofs.Flats.{number_behind}
use Rattle.byte_answers.proofs.unflat.last_number.Goals as goal

pub returns : goal.returns
returns c = (
  number_behind c.args.bytes.now c.in_ok-before.before.now c.in_ok-before.number.now c.from_le_bytes.result
      c.in_ok-before.ensures.cases.0 c.in_ok-before.ensures.cases.1 c.in_ok-before.ensures.cases.2 c.type_inv.bytes
      c.from_le_bytes.ensures,
  omega arith,
)
