use Rattle.cargo_platform.proofs.Changes.{well_formed_without_literal_keys, well_formed_without_marked_literals}
use Rattle.cargo_platform.proofs.laws.well_formed_as_before.Goals as goal

pub returns-clause-today : goal.returns-clause-today
returns-clause-today c = λ e. well_formed_without_literal_keys e

pub returns-clause-released : goal.returns-clause-released
returns-clause-released c = λ e. well_formed_without_marked_literals e
