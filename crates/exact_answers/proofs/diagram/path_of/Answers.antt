use Rattle.exact_answers.proofs.Ending.{fresh_path}
use Rattle.exact_answers.proofs.diagram.path_of.Goals as goal

pub loop-choice-init : goal.loop-choice-init
loop-choice-init c = λ es among. fresh_path _ _ es c.new-path.ensures.known c.new-path.ensures.none
