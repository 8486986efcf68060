use Rattle.cargo_platform.proofs.FoundInFacts.{found_in_facts}
use Rattle.cargo_platform.proofs.laws.faults_are_in_facts.Goals as goal

pub returns : goal.returns
returns c = λ text error found utf8. found_in_facts text error found utf8
