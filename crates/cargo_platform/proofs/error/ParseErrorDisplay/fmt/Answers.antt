use Rattle.std.proofs.Common.{append_assoc}
use Rattle.cargo_platform.proofs.error.ParseErrorDisplay.fmt.Goals as goal

pub returns-clause-writes : goal.returns-clause-writes
returns-clause-writes g c plain ok =
    simp (append_assoc) (rw c.deref.ensures at c.write.ensures.writes plain ok)
