use Rattle.std.proofs.Common.{length, map, string_bytes}
use Rattle.byte_commands.proofs.Words.{AreArgumentsTo}
use Rattle.byte_commands.proofs.call_input.arguments_in.Given as goal

abbrev pub invariant-words : goal.invariant-words
invariant-words l = AreArgumentsTo l.bytes l.left (map string_bytes l.arguments.items)

abbrev pub decreases-words : goal.decreases-words
decreases-words l = length l.left
