use Rattle.predicate_classes.proofs.Had.{no_mistake}
use Rattle.predicate_classes.proofs.laws.what_targets_have_is_no_mistake.Goals as goal

pub returns : goal.returns
returns c = no_mistake
