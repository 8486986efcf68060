use Rattle.std.proofs.Common.{subst, Bool}
use Rattle.licence_audits.specs.Uses.{NeedsException}
use Rattle.licence_audits.proofs.Naming.{one_unneeded}
use Rattle.licence_audits.proofs.uses.is_unused_exception.Goals as goal

pub subjects-preserved : goal.subjects-preserved
subjects-preserved c =
    one_unneeded c.args.exception.now c.args.subjects.now c.subjects.subject-index c.subject-item.result
    c.subjects-test.true c.subject-item.is c.subjects.invariant
    (subst (λ (b : Bool). NeedsException c.args.exception.now c.subject-item.result b) c.if-branch.false
    c.in_ok-needs_exception.ensures)
