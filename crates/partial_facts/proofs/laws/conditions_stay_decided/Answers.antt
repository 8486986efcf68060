use Rattle.partial_facts.proofs.Learning.{condition_kept}
use Rattle.partial_facts.proofs.laws.conditions_stay_decided.Goals as goal

pub returns : goal.returns
returns c = condition_kept
