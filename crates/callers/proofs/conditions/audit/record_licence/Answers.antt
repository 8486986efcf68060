use Rattle.std.proofs.Common.{ap}
use Rattle.cargo_platform.specs.Trees.{condition_of}
use Rattle.cargo_platform.specs.Key.{condition_cmp}
use Rattle.callers.proofs.SameKeys.{put_there, kept_there}
use Rattle.callers.proofs.conditions.audit.record_licence.Goals as goal

pub returns-clause-noted : goal.returns-clause-noted
returns-clause-noted c = λ q same.
    let condition = condition_of c.args.condition in
    let law = c.keys_are_ordered.ensures.conditions.equal condition (condition_of q) in
    put_there (condition_cmp condition (condition_of q)) _ _ _ (law.1 same) (c.in_ok-insert.ensures.updates.0 q)

pub returns-clause-others : goal.returns-clause-others
returns-clause-others c = λ q apart.
    let condition = condition_of c.args.condition in
    let law = c.keys_are_ordered.ensures.conditions.equal condition (condition_of q) in
    kept_there (condition_cmp condition (condition_of q)) _ _ _ (λ tie. apart (law.0 tie))
    (c.in_ok-insert.ensures.updates.0 q)
