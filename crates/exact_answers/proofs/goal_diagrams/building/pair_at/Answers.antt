use Rattle.exact_answers.proofs.Pairs.{pair_at}
use Rattle.exact_answers.proofs.goal_diagrams.building.pair_at.Goals as goal

pub returns : goal.returns
returns c = pair_at c.args.pairs.now c.args.number c.index-pairs-number.result c.requires c.index-pairs-number.is
