use Rattle.cargo_platform.proofs.Completable.{prefix_completable, none_completable}
use Rattle.cargo_platform.proofs.laws.prefixes_completable.Goals as goal

pub returns-clause-prefixes : goal.returns-clause-prefixes
returns-clause-prefixes c = λ g prefix after well p. prefix_completable g prefix after well p

pub returns-clause-none : goal.returns-clause-none
returns-clause-none c = λ g. none_completable g
