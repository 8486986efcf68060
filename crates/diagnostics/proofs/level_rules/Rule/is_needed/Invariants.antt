use Rattle.std.proofs.Common.{ℕ, ◌≡◌, ◌≢◌, ◌<◌, get_or, option_map}
use Rattle.manifest_lints_findings.specs.Codes.{lint_word}
use Rattle.diagnostics.specs.declared.level_rules.RuleInput.{RuleInput}
use Rattle.diagnostics.specs.declared.level_rules.DiagnosticLevel.TheVariants as level
use Rattle.diagnostics.specs.LintLevels.{Hears}
use Rattle.diagnostics.proofs.level_rules.Rule.is_needed.Given as goal

abbrev pub invariant-loop-it : goal.invariant-loop-it
invariant-loop-it l = (it : RuleInput) (k : ℕ) → k < l.it-index → get_or l.found k it ≡ it
    → it.level ≢ level.Allowed → Hears l.self (lint_word it.lint) (option_map (λ k. k.now) it.key) it.level → ⊥
