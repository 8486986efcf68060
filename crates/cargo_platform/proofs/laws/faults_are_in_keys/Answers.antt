use Rattle.cargo_platform.proofs.FoundInKeys.{found_in_key}
use Rattle.cargo_platform.proofs.laws.faults_are_in_keys.Goals as goal

pub returns : goal.returns
returns c = λ key text fault span found utf8. found_in_key key text fault span found utf8
