use Rattle.std.proofs.Common.{length}
use Rattle.byte_commands.proofs.Words.{IsReadTo}
use Rattle.byte_commands.proofs.call_input.divided.Given as goal

abbrev pub invariant-bytes : goal.invariant-bytes
invariant-bytes l = IsReadTo l.bytes l.at l.left

abbrev pub decreases-bytes : goal.decreases-bytes
decreases-bytes l = length l.left
