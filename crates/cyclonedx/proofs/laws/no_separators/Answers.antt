use Rattle.cyclonedx.proofs.Escapes.{no_separator}
use Rattle.cyclonedx.proofs.laws.no_separators.Goals as goal

pub returns : goal.returns
returns c = no_separator
