use Rattle.partial_facts.proofs.Learning.{condition_in_steps}
use Rattle.partial_facts.proofs.laws.conditions_left_in_steps.Goals as goal

pub returns : goal.returns
returns c = condition_in_steps
