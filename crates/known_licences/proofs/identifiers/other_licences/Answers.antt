use Rattle.std.proofs.Common.{refl}
use Rattle.known_licences.specs.Identifiers.{other_licences}
use Rattle.known_licences.proofs.identifiers.other_licences.Goals as goal

pub returns : goal.returns
unfolding other_licences
returns c = refl
