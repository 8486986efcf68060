use Rattle.std.proofs.Common.{option_map, drop}
use Rattle.manifest_lints_findings.specs.Codes.{lint_word}
use Rattle.diagnostics.specs.declared.level_rules.DiagnosticLevel.{DiagnosticLevel}
use Rattle.diagnostics.specs.LintLevels.{Makes}
use Rattle.diagnostics.proofs.level_rules.level_after.Given as goal

-- what the rules that are left make of the level so far, all make of the first one
abbrev pub invariant-rules : goal.invariant-rules
invariant-rules l = (v : DiagnosticLevel)
    → Makes (lint_word l.found.lint) (option_map (λ k. k.now) l.found.key) l.level (drop l.rule-index l.rules) v
    → Makes (lint_word l.found.lint) (option_map (λ k. k.now) l.found.key) l.found.level l.rules v
