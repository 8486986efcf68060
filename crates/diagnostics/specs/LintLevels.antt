-- The level that rules give a diagnostic.
use Rattle.std.specs.Prelude.{◌≡◌, ◌≢◌, ◌≤◌, ◌⊎◌, ℕ, List, [], ◌∷◌}
use Rattle.std.specs.Prelude.{Option, Some, None, option_map, Contains, string_bytes}
use Rattle.std.specs.declared.string.String.{String}
use Rattle.std.specs.declared.alloc.Global.{Global}
use Rattle.manifest_lints_findings.specs.Codes.{lint_word}
use Rattle.diagnostics.specs.declared.level_rules.DiagnosticLevel.{DiagnosticLevel}
use Rattle.diagnostics.specs.declared.level_rules.DiagnosticLevel.TheVariants as level
use Rattle.diagnostics.specs.declared.level_rules.LintLevel.{LintLevel}
use Rattle.diagnostics.specs.declared.level_rules.LintLevel.TheVariants as setting
use Rattle.diagnostics.specs.declared.level_rules.Subject.{Subject}
use Rattle.diagnostics.specs.declared.level_rules.Subject.TheVariants as subject
use Rattle.diagnostics.specs.declared.level_rules.Rule.{Rule}
use Rattle.diagnostics.specs.declared.level_rules.RuleInput.{RuleInput}

-- the level of a diagnostic to which a rule with this setting applies
abbrev pub level_set : LintLevel → DiagnosticLevel
level_set setting.Allow = level.Allowed
level_set setting.Warn = level.Warning
level_set setting.Deny = level.Error

-- the subject includes the diagnostics of this lint that have this level after the rules before
abbrev pub IsAbout : Subject → List ℕ → DiagnosticLevel → Type 0
IsAbout (subject.Lint lint) code w = lint_word lint ≡ code
IsAbout subject.Warnings code w = w ≡ level.Warning
IsAbout subject.Notes code w = w ≡ level.Note

-- all keys are meant, or this one is
abbrev pub IsMeant : Option (String Global) → Option (List ℕ) → Type 0
IsMeant None key = Unit {0}
IsMeant (Some meant) key = key ≡ Some (string_bytes meant)

-- the rule applies to a diagnostic of this lint, on this key, that has this level after the rules before
abbrev pub Hears : Rule → List ℕ → Option (List ℕ) → DiagnosticLevel → Type 0
Hears rule code key w = IsAbout rule.subject code w × IsMeant rule.key key

-- the rules turn the first level into the second: each, in its order, sets the level if it applies to the diagnostic by
-- then, and otherwise keeps it
abbrev pub Makes : List ℕ → Option (List ℕ) → DiagnosticLevel → List Rule → DiagnosticLevel → Type 0
Makes code key w [] v = v ≡ w
Makes code key w (rule ∷ rules) v =
    (Hears rule code key w × Makes code key (level_set rule.setting) rules v)
    ⊎ ((Hears rule code key w → ⊥) × Makes code key w rules v)

-- how severe a level is
abbrev pub severity : DiagnosticLevel → ℕ
severity level.Allowed = 0
severity level.Note = 1
severity level.Warning = 2
severity level.Error = 3

-- a diagnostic of the second level fails a run that diagnostics from the first level on fail
abbrev pub Fails : Option DiagnosticLevel → DiagnosticLevel → Type 0
Fails None w = ⊥
Fails (Some least) w = severity least ≤ severity w

-- the rule applies to a diagnostic that would be reported without any rule
abbrev pub IsNeeded : Rule → List RuleInput → Type 0
IsNeeded rule found = (it : RuleInput) × Contains found it × (it.level ≢ level.Allowed)
    × Hears rule (lint_word it.lint) (option_map (λ k. k.now) it.key) it.level
