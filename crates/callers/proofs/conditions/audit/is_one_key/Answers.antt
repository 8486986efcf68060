use Rattle.cargo_platform.specs.Trees.{condition_of}
use Rattle.cargo_platform.specs.Key.{condition_cmp}
use Rattle.callers.proofs.SameKeys.{told_by_order}
use Rattle.callers.proofs.conditions.audit.is_one_key.Goals as goal

pub returns : goal.returns
returns c =
    let a = condition_of c.args.a.now in
    let b = condition_of c.args.b.now in
    told_by_order c.eq.result (condition_cmp a b) c.eq.ensures (c.keys_are_ordered.ensures.conditions.equal a b)
