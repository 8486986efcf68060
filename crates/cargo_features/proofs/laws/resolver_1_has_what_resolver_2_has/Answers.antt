use Rattle.cargo_features.proofs.Joined.{holds_joined}
use Rattle.cargo_features.proofs.laws.resolver_1_has_what_resolver_2_has.Goals as goal

pub returns : goal.returns
returns c kinds host packages k it = holds_joined kinds host packages k it
