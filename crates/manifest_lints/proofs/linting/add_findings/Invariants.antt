use Rattle.std.proofs.Common.{map, take, Some}
use Rattle.std.specs.List.{filter}
use Rattle.manifest_lints_findings.specs.Codes.{is_reported}
use Rattle.manifest_lints_findings.specs.declared.codes.TheConstants.{KEY_LINTS}
use Rattle.manifest_lints.specs.CheckedKeys.{applicable_codes}
use Rattle.manifest_lints.specs.Reports.{AddsFindings}
use Rattle.manifest_lints.proofs.linting.add_findings.Given as goal

abbrev pub invariant-codes : goal.invariant-codes
invariant-codes l =
    AddsFindings
    (map (λ c. (Some l.checked.key.place, c))
    (filter (is_reported (applicable_codes l.checked)) (take l.code-index KEY_LINTS)))
    l.other l.checked.key l.initial.findings.items l.findings.items
