-- The report on a key.
use Rattle.std.specs.Prelude.{◌≡◌, ◌⊎◌, ℕ, List, ◌++◌, codes, if◌then◌else◌}
use Rattle.cargo_platform.specs.Trees.{Condition}
use Rattle.cargo_platform.specs.Facts.{FactSet, truth_of_condition}
use Rattle.cargo_platform.specs.Faults.{Fault}
use Rattle.cargo_platform.specs.Platforms.{IsConditionText, IsRefusedCondition}
use Rattle.cargo_platform.specs.Print.{print_condition, print_error}
use Rattle.cargo_platform.specs.Warnings.{attribute_warnings, keyword_warnings}
use Rattle.cargo_platform.specs.Lines.{line, ended}

-- the canonical form of a condition and its warnings, one per line
abbrev pub report_on : List ℕ → Condition → List ℕ
report_on manifest p = line (print_condition p) ++ ended (attribute_warnings p ++ keyword_warnings manifest p)

-- the report on the key's condition, or the line that says why the key is rejected
abbrev pub IsReport : List ℕ → List ℕ → List ℕ → Type 0
IsReport manifest key report =
    ((p : Condition) × IsConditionText key p × (report ≡ report_on manifest p))
    ⊎ ((orig : List ℕ) × (fault : Fault) × IsRefusedCondition key orig fault × (report ≡ line (print_error orig fault)))

-- the canonical form of a condition, and whether it is true on the target
abbrev pub line_on : List ℕ → FactSet → Condition → List ℕ
line_on target facts p =
    print_condition p ++ (codes ": " ++ (if truth_of_condition target facts p then codes "true" else codes "false"))

-- the line on the key's condition, or the text that says why the key is rejected
abbrev pub IsLineOn : List ℕ → List ℕ → FactSet → List ℕ → Type 0
IsLineOn key target facts line =
    ((p : Condition) × IsConditionText key p × (line ≡ line_on target facts p))
    ⊎ ((orig : List ℕ) × (fault : Fault) × IsRefusedCondition key orig fault × (line ≡ print_error orig fault))
