use Rattle.diagnostics.proofs.Making.{then}
use Rattle.diagnostics.proofs.level_rules.level_after_all.Goals as goal

pub returns : goal.returns
returns c =
    then _ _ _ _ _ _ _ c.level_after.ensures (then _ _ _ _ _ _ _ c.level_after-2.ensures c.level_after-3.ensures)
