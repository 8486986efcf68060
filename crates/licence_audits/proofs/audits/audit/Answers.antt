use Rattle.std.proofs.Common.{map, ap, ◌∙◌, refl, Vec, Global}
use Rattle.spdx_expressions.specs.Trees.{term_of}
use Rattle.licence_audits.specs.declared.audits.PackageFinding.{PackageFinding}
use Rattle.licence_audits.proofs.Auditing.{none_found, goes_on_passed, goes_on_found}
use Rattle.licence_audits.proofs.audits.audit.Goals as goal
use Rattle.licence_audits.proofs.audits.audit.Goals.{in-Some+in_ok-push, in_default}

pub subjects-init : goal.subjects-init
subjects-init c = none_found (map term_of c.args.allowed.now) c.args.exceptions.now _ c.new-findings.ensures.items

pub subjects-preserved : goal.subjects-preserved
subjects-preserved c =
    let entries = map term_of c.args.allowed.now in
    let found = rw c.in_ok-found.was at c.audit_of.ensures in
    let items = λ (v : Vec PackageFinding Global). v.items in
    elim c.match-branch-2.branch [
      | in-Some+in_ok-push w ↦
          goes_on_found entries c.args.exceptions.now c.args.subjects.now c.subjects.i c.index-subjects-i.result
          c.subjects.findings.items
          c.match-branch-2.findings.items (record { place = c.subjects.i; finding = w.in-Some.found })
          c.subjects-test.true c.index-subjects-i.is
          (ap items w.findings-is ∙ w.in_ok-push.ensures.items) refl c.subjects.invariant (rw w.in-Some.is at found)
      | in_default w ↦
          goes_on_passed entries c.args.exceptions.now c.args.subjects.now c.subjects.i c.index-subjects-i.result
          c.subjects.findings.items
          c.match-branch-2.findings.items c.subjects-test.true c.index-subjects-i.is
          (ap items w.findings-is) c.subjects.invariant
          (rw w.in_default.is at found)
    ]
