use Rattle.std.proofs.Common.{subst, IfNone}
use Rattle.former_names.specs.declared.rows.RemovalReleases.{RemovalReleases}
use Rattle.former_names.specs.Rows.{HasTarget}
use Rattle.former_names.proofs.rows.former_target.Goals as goal

pub returns-clause-none : goal.returns-clause-none
returns-clause-none c =
    subst (λ rows. IfNone c.find_target.result ((b : RemovalReleases) → HasTarget rows c.args.name.now b → ⊥))
    c.targets.ensures c.find_target.ensures.none
