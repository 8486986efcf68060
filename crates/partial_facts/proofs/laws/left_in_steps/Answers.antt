use Rattle.partial_facts.proofs.Steps.{in_steps}
use Rattle.partial_facts.proofs.laws.left_in_steps.Goals as goal

pub returns : goal.returns
returns c told more e grows = in_steps told more grows e
