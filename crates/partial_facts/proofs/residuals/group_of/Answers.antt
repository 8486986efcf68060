use Rattle.std.proofs.Common.{true, false, rules}
use Rattle.cargo_platform.specs.declared.cfg.CfgExpr.{the_lemmas}
use Rattle.partial_facts.proofs.Reducing.{closed}
use Rattle.partial_facts.proofs.residuals.group_of.Goals as goal

pub returns-then-neutral : goal.returns-then-neutral
returns-then-neutral c =
    closed c.args.neutral true _ c.args.members c.len.result c.len.ensures c.if-len-gt1.true c.if-neutral.true
    (search (rules, the_lemmas))

pub returns-else-neutral : goal.returns-else-neutral
returns-else-neutral c =
    closed c.args.neutral false _ c.args.members c.len.result c.len.ensures c.if-len-gt1.true c.if-neutral.false
    (search (rules, the_lemmas))
