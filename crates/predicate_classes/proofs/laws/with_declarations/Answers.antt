use Rattle.predicate_classes.proofs.Rules.{settled, stays, of_others}
use Rattle.predicate_classes.proofs.laws.with_declarations.Goals as goal

pub returns-clause-settled : goal.returns-clause-settled
returns-clause-settled c = settled

pub returns-clause-stays : goal.returns-clause-stays
returns-clause-stays c = stays

pub returns-clause-of_others : goal.returns-clause-of_others
returns-clause-of_others c = of_others
