use Rattle.cargo_platform.proofs.FactTruths.{same_facts_truth, same_pairs_truth}
use Rattle.cargo_platform.proofs.laws.truth_is_of_facts.Goals as goal

pub returns-clause-sets : goal.returns-clause-sets
returns-clause-sets c = same_facts_truth

pub returns-clause-lists : goal.returns-clause-lists
returns-clause-lists c = same_pairs_truth
