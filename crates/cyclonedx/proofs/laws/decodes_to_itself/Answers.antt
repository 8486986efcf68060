use Rattle.cyclonedx.proofs.Escapes.{decodes_to_itself}
use Rattle.cyclonedx.proofs.laws.decodes_to_itself.Goals as goal

pub returns : goal.returns
returns c = decodes_to_itself
