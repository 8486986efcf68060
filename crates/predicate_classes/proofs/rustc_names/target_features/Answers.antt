use Rattle.std.proofs.Common.{refl}
use Rattle.predicate_classes.specs.Classes.{target_features}
use Rattle.predicate_classes.proofs.rustc_names.target_features.Goals as goal

pub returns : goal.returns
unfolding target_features
returns c = refl
