use Rattle.std.proofs.Common.{◌≡◌, ◌++◌, false, drop}
use Rattle.cargo_platform.specs.Errors.{texts}
use Rattle.manifest_lints_findings.specs.Chosen.{warnings_on}
use Rattle.manifest_lints_findings.proofs.notes_and_helps.warnings_on.Given as goal

-- what was said, and is said of what is left
abbrev pub invariant-facts : goal.invariant-facts
invariant-facts l =
    texts l.found ++ warnings_on l.is_said (drop l.predicate-index l.facts) ≡ warnings_on false l.facts
