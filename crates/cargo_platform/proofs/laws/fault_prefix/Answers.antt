use Rattle.cargo_platform.specs.Cut.{lexemes}
use Rattle.cargo_platform.proofs.Completable.{stopped_by_next, expected_follows}
use Rattle.cargo_platform.proofs.laws.fault_prefix.Goals as goal

pub returns-clause-completable : goal.returns-clause-completable
returns-clause-completable c = λ g ts prefix after f. f.completable

pub returns-clause-stopped : goal.returns-clause-stopped
returns-clause-stopped c = λ g ts prefix after f next others h p. stopped_by_next g ts prefix after others next f h p

pub returns-clause-expected : goal.returns-clause-expected
returns-clause-expected c = λ g ts prefix after f refused. expected_follows g (lexemes prefix) f.completable refused
