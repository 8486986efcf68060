use Rattle.cargo_platform.proofs.ConditionSpans.{condition_placed_in}
use Rattle.cargo_platform.proofs.Spans.{placed_in}
use Rattle.cargo_platform.proofs.laws.faults_are_placed.Goals as goal

pub returns-clause-texts : goal.returns-clause-texts
returns-clause-texts c = λ g text fault span utf8 h. placed_in g text fault span utf8 h

pub returns-clause-conditions : goal.returns-clause-conditions
returns-clause-conditions c = λ text orig fault span utf8 h. condition_placed_in text orig fault span utf8 h
