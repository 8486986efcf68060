use Rattle.cargo_platform.proofs.FactTruths.{listed}
use Rattle.cargo_platform.proofs.laws.facts_are_pairs_of_members.Goals as goal

pub returns : goal.returns
returns c = listed
