-- Laws about the levels that rules set.
use Rattle.std.specs.Prelude.{◌≡◌, ℕ, List, ◌∷◌, ◌++◌, Option}
use Rattle.std.specs.List.{All}
use Rattle.diagnostics.specs.declared.level_rules.DiagnosticLevel.{DiagnosticLevel}
use Rattle.diagnostics.specs.declared.level_rules.Rule.{Rule}
use Rattle.diagnostics.specs.LintLevels.{level_set, Hears, Makes}

-- rules turn a level into exactly one level
abbrev pub MakesOne : Type 0
MakesOne = (code : List ℕ) (key : Option (List ℕ)) (own v w : DiagnosticLevel) (rules : List Rule)
    → Makes code key own rules v → Makes code key own rules w → v ≡ w

-- a diagnostic to which none of the rules applies keeps its level
abbrev pub IsKept : Type 0
IsKept = (code : List ℕ) (key : Option (List ℕ)) (own v : DiagnosticLevel) (rules : List Rule)
    → All (λ rule. Hears rule code key own → ⊥) rules → Makes code key own rules v → v ≡ own

-- a rule decides if it applies to a diagnostic of any level and no rule after it applies
abbrev pub LastDecides : Type 0
LastDecides = (code : List ℕ) (key : Option (List ℕ)) (own v : DiagnosticLevel) (front back : List Rule) (rule : Rule)
    → ((w : DiagnosticLevel) → Hears rule code key w)
    → All (λ later. Hears later code key (level_set rule.setting) → ⊥) back
    → Makes code key own (front ++ rule ∷ back) v → v ≡ level_set rule.setting
