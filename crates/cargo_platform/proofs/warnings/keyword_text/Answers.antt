use Rattle.std.proofs.Common.{append_assoc}
use Rattle.cargo_platform.proofs.warnings.keyword_text.Goals as goal

pub returns : goal.returns
returns c = simp append_assoc c.format.ensures.ok
