use Rattle.std.proofs.Common.{refl}
use Rattle.known_licences.specs.Identifiers.{first_licences}
use Rattle.known_licences.proofs.identifiers.first_licences.Goals as goal

pub returns : goal.returns
unfolding first_licences
returns c = refl
