use Rattle.cargo_platform.specs.Trees.{Trees}
use Rattle.exact_answers.specs.Goals.{pairs_of}
use Rattle.exact_answers.specs.Asking.{some_asks}
use Rattle.exact_answers.specs.Inside.Searches.{IsPathOf}
use Rattle.exact_answers.specs.Inside.Ahead.{AreAmong}
use Rattle.exact_answers.proofs.diagram.path_of.Given as goal

-- each pair was open when it was taken, and is asked for
abbrev pub invariant-loop-choice : goal.invariant-loop-choice
invariant-loop-choice l = (es : Trees) → AreAmong (some_asks es) (pairs_of l.pairs) → IsPathOf l.path l.known es

abbrev pub invariant-loop-number : goal.invariant-loop-number
invariant-loop-number l = (es : Trees) → AreAmong (some_asks es) (pairs_of l.pairs) → IsPathOf l.path l.known es
