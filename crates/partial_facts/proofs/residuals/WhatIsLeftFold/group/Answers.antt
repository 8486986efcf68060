use Rattle.std.proofs.Common.{◌∙◌, map}
use Rattle.cargo_platform.specs.Trees.{tree_of}
use Rattle.partial_facts.proofs.Reducing.{left_whole}
use Rattle.partial_facts.proofs.residuals.WhatIsLeftFold.group.Goals as goal

pub returns : goal.returns
returns g c = λ es so_far.
    c.group_of.ensures
    ∙ left_whole (g.K.Knowledge.told c.args.self.now.known.now) c.args.neutral es (map tree_of c.args.members.items)
    so_far
