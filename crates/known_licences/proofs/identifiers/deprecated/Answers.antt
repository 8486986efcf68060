use Rattle.std.proofs.Common.{refl}
use Rattle.known_licences.specs.Identifiers.{deprecated}
use Rattle.known_licences.proofs.identifiers.deprecated.Goals as goal

pub returns : goal.returns
unfolding deprecated
returns c = refl
