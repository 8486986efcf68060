use Rattle.exact_answers.proofs.Pairs.{pair_at}
use Rattle.exact_answers.proofs.Ending.{both_on_ok, taken_path}
use Rattle.exact_answers.proofs.diagram.take_at.Goals as goal

pub returns-then-number-pairs : goal.returns-then-number-pairs
returns-then-number-pairs c =
    both_on_ok c.take.result c.take.ensures.open c.take.ensures.asked
    (λ kept asked k es among way.
    taken_path c.args.path.now c.take.new.self k es _ c.take.ensures.known kept asked
    (among c.args.number _
    (pair_at c.args.pairs.now c.args.number c.index-pairs-number.result c.if-number-pairs.true
    c.index-pairs-number.is)) way)
