use Rattle.cargo_features.specs.declared.claims.Claim.TheVariants as claim
use Rattle.cargo_features.proofs.Within.{within}
use Rattle.cargo_features.proofs.laws.what_is_used_is_there.Goals as goal

pub returns : goal.returns
returns c build packages graph k p side over here = within build packages graph k over (claim.Used p side) here
