use Rattle.manifest_lints_findings.specs.Codes.{is_reported}
use Rattle.manifest_lints_findings.specs.declared.codes.TheConstants.{KEY_LINTS}
use Rattle.manifest_lints.specs.CheckedKeys.{applicable_codes}
use Rattle.manifest_lints.proofs.Reports.{adds_none, one_code, all_codes}
use Rattle.manifest_lints.proofs.linting.add_findings.Goals as goal

pub codes-init : goal.codes-init
codes-init c = adds_none c.args.other.now c.args.checked.now.key c.args.findings.now.items

pub codes-preserved : goal.codes-preserved
codes-preserved c =
    one_code (is_reported (applicable_codes c.args.checked.now)) c.args.checked.now.key.place KEY_LINTS
    c.codes.code-index _
    c.codes-test.true c.args.other.now c.args.checked.now.key _ _ _ c.codes.invariant c.in_ok-add_finding.ensures

pub returns : goal.returns
returns c =
    all_codes (is_reported (applicable_codes c.args.checked.now)) c.args.checked.now.key.place c.codes.code-index
    KEY_LINTS
    c.args.other.now c.args.checked.now.key c.args.findings.now.items _ c.codes-test.false c.codes.invariant
