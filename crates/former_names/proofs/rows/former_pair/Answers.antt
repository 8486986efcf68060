use Rattle.std.proofs.Common.{subst, IfNone}
use Rattle.former_names.specs.declared.rows.RemovalReleases.{RemovalReleases}
use Rattle.former_names.specs.Rows.{HasPair}
use Rattle.former_names.proofs.rows.former_pair.Goals as goal

pub returns-clause-none : goal.returns-clause-none
returns-clause-none c =
    subst (λ rows. IfNone c.find_fact.result
    ((b : RemovalReleases) → HasPair rows c.args.key.now c.args.value.now b → ⊥))
    c.facts.ensures c.find_fact.ensures.none
