use Rattle.std.specs.FinSet.{contains}
use Rattle.partial_facts.proofs.Learning.{agreed}
use Rattle.partial_facts.proofs.laws.complete_tells_more.Goals as goal

pub returns : goal.returns
returns g c s possible p b =
    agreed (g.K.Knowledge.told c.args.known.now p) (contains s p) b
    (g.met.K.Knowledge.sound c.args.known.now s p possible)
