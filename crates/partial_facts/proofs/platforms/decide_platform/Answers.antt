use Rattle.cargo_platform.specs.Trees.{condition_of}
use Rattle.partial_facts.proofs.Naming.{copied, condition_sound}
use Rattle.partial_facts.proofs.platforms.decide_platform.Goals as goal

pub returns-clause-sound : goal.returns-clause-sound
returns-clause-sound g c target s named allowed =
    condition_sound _ _ target s (copied c.args.name target named)
    (λ p. g.met.K.Knowledge.sound c.args.known.now s p allowed)
    (condition_of c.args.platform.now) _ c.evaluate_platform.ensures
