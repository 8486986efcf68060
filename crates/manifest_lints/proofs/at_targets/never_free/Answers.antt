use Rattle.std.proofs.Common.{sym, subst, true, false}
use Rattle.std.specs.Prelude.{IfOk}
use Rattle.cargo_platform.specs.Trees.{condition_of}
use Rattle.manifest_lints.specs.AtTargets.{SaysNeverFree}
use Rattle.manifest_lints.proofs.AtTargets.{free_never, free_always}
use Rattle.manifest_lints.proofs.at_targets.never_free.Goals as goal

pub returns-then-truth : goal.returns-then-truth
returns-then-truth c = λ nothing.
    let p = condition_of c.args.platform.now in
    subst (λ b. IfOk c.is_never.result (λ d. SaysNeverFree b d p)) (sym c.if-truth.true)
    (free_never c.args.known.now p c.is_never.result nothing c.is_never.ensures.says c.is_never.ensures.unknown)

pub returns-else-truth : goal.returns-else-truth
returns-else-truth c = λ nothing.
    let p = condition_of c.args.platform.now in
    subst (λ b. IfOk c.is_always.result (λ d. SaysNeverFree b d p)) (sym c.if-truth.false)
    (free_always c.args.known.now p c.is_always.result nothing c.is_always.ensures.says c.is_always.ensures.unknown)
