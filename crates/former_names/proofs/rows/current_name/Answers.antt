use Rattle.std.proofs.Common.{subst, IfNone, List, ℕ}
use Rattle.former_names.specs.Rows.{IsRenamed}
use Rattle.former_names.proofs.rows.current_name.Goals as goal

pub returns-clause-none : goal.returns-clause-none
returns-clause-none c =
    subst (λ rows. IfNone c.find_renamed.result ((now : List ℕ) → IsRenamed rows c.args.name.now now → ⊥))
    c.renamed.ensures c.find_renamed.ensures.none
