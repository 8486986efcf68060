-- The answers on texts, and on flat bytes.
use Rattle.std.specs.Prelude.{◌≡◌, ℕ, Bool, IsTrue, ◌↔◌, ◌<◌, List, map}
use Rattle.cargo_platform.specs.Trees.{Condition, CfgValue}
use Rattle.cargo_platform.specs.Platforms.{IsConditionText}
use Rattle.cargo_platform.specs.Print.{print_condition, print_value}
use Rattle.cargo_platform.specs.Facts.{fact_set, truth_of_condition, IsTrueCondition}
use Rattle.cargo_platform.specs.Lines.{lines_of, ended}
use Rattle.cargo_platform.specs.FactLines.{SpellFacts}
use Rattle.known_targets.specs.Bits.{has}
use Rattle.known_targets.specs.Rows.{facts_in}
use Rattle.known_targets.specs.Table.{target_name, target_facts, table_keys}
use Rattle.known_targets.specs.declared.table.TheConstants.{COUNT}
use Rattle.byte_answers.specs.Outcomes.{IsWritten}
use Rattle.byte_answers.specs.Flat.{flat_condition, flat_values, IsOfTexts, AreOfTexts}

-- the canonical text of the key's condition is written to the buffer
abbrev pub IsCanonical : List ℕ → ℕ → List ℕ → List ℕ → Type 0
IsCanonical key needed old new =
    (p : Condition) × IsConditionText key p × IsWritten (print_condition p) needed old new

-- the flat form of the key's condition is written to the buffer
abbrev pub IsFlatOf : List ℕ → ℕ → List ℕ → List ℕ → Type 0
IsFlatOf key needed old new =
    (p : Condition) × (IsConditionText key p × IsOfTexts p × IsWritten (flat_condition p) needed old new)

-- whether the key's condition is true on a target with this name and the facts in the lines
abbrev pub IsMatch : List ℕ → List ℕ → List ℕ → Bool → Type 0
IsMatch key name lines holds =
    (p : Condition) × ((facts : List CfgValue) × (IsConditionText key p × SpellFacts (lines_of lines) facts
    × (holds ≡ truth_of_condition name (fact_set facts) p)))

-- the same for flat bytes
abbrev pub IsFlatMatch : List ℕ → List ℕ → List ℕ → Bool → Type 0
IsFlatMatch flat name flat_facts holds =
    (p : Condition) × ((facts : List CfgValue) × (IsOfTexts p × (flat_condition p ≡ flat)
    × AreOfTexts facts × (flat_values facts ≡ flat_facts) × (holds ≡ truth_of_condition name (fact_set facts) p)))

-- the bits of the known targets on which the key's condition is true
abbrev pub AreTargets : List ℕ → List ℕ → Type 0
AreTargets key words =
    (p : Condition) × (IsConditionText key p × ((k : ℕ) → k < COUNT
    → IsTrue (has words k) ↔ IsTrueCondition (target_name k) (target_facts k) p))

-- the canonical text of the condition of these bytes is written to the buffer
abbrev pub IsPrint : List ℕ → ℕ → List ℕ → List ℕ → Type 0
IsPrint flat needed old new =
    (p : Condition) × (IsOfTexts p × (flat_condition p ≡ flat) × IsWritten (print_condition p) needed old new)

-- facts as they are printed, one per line
abbrev pub fact_lines : List CfgValue → List ℕ
fact_lines facts = ended (map print_value facts)

-- the facts of the known target with this name are written to the buffer
abbrev pub AreFactsOf : List ℕ → ℕ → List ℕ → List ℕ → Type 0
AreFactsOf name needed old new =
    (k : ℕ) × ((k < COUNT) × (target_name k ≡ name) × IsWritten (fact_lines (facts_in k table_keys)) needed old new)
