use Rattle.byte_commands.proofs.Words.{one_byte}
use Rattle.byte_commands.proofs.call_input.divided.Goals as goal

pub bytes-preserved : goal.bytes-preserved
bytes-preserved c =
    one_byte c.args.bytes.now c.bytes.left.now c.in-Some.others.now c.bytes.at c.in-Some.first.now c.bytes.invariant
    c.in-Some.ensures.cases.0 c.if-first-eq0.false
