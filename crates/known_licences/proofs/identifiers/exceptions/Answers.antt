use Rattle.std.proofs.Common.{refl}
use Rattle.known_licences.specs.Identifiers.{exceptions}
use Rattle.known_licences.proofs.identifiers.exceptions.Goals as goal

pub returns : goal.returns
unfolding exceptions
returns c = refl
