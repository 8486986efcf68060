use Rattle.callers.proofs.Keys.{answers}
use Rattle.callers.proofs.conditions.fixed_key.is_unix.Goals as goal

pub returns : goal.returns
returns c = answers _ c.matches_key.result c.matches_key.ensures.yes c.matches_key.ensures.otherwise
