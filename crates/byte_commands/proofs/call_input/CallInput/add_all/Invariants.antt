use Rattle.std.proofs.Common.{◌≡◌, length}
use Rattle.byte_commands.specs.CallInput.{contents_of}
use Rattle.byte_commands.proofs.Words.{AreFilesTo}
use Rattle.byte_commands.proofs.call_input.CallInput.add_all.Given as goal

abbrev pub invariant-files : goal.invariant-files
invariant-files l =
    (l.self.arguments ≡ l.initial.self.arguments)
    × AreFilesTo l.bytes l.left (contents_of l.self.files.items) l.self.input.now

abbrev pub decreases-files : goal.decreases-files
decreases-files l = length l.left
