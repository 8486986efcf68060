use Rattle.cargo_platform.specs.Trees.{tree_of}
use Rattle.partial_facts.proofs.KleeneSound.{kleene_sound}
use Rattle.partial_facts.proofs.three_valued.decide.Goals as goal

pub returns-clause-sound : goal.returns-clause-sound
returns-clause-sound g c s allowed =
    kleene_sound _ s (λ p. g.met.K.Knowledge.sound c.args.known.now s p allowed) (tree_of c.args.e.now) _
    c.evaluate.ensures
