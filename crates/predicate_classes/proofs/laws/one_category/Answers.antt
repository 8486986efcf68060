use Rattle.predicate_classes.proofs.Rules.{has_category}
use Rattle.predicate_classes.proofs.laws.one_category.Goals as goal

pub returns : goal.returns
returns c = has_category
