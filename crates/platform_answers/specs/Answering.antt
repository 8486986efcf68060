-- The output and the outcome, by the bytes of the input.
use Rattle.std.specs.Prelude.{ℕ, ◌≡◌, ◌≤◌, ◌<◌, ◌⊎◌, Bool, true, false, List, ◌++◌, length, codes, flat_map}
use Rattle.std.specs.Prelude.{bytes_eq, IsUtf8}
use Rattle.std.specs.Fmt.{decimal}
use Rattle.cargo_platform.specs.Trees.{CfgValue, Condition, Target, Expression}
use Rattle.cargo_platform.specs.Spelling.{Values}
use Rattle.cargo_platform.specs.Faults.{Fault, IsRefused}
pub use Rattle.cargo_platform.specs.FactLines.{SpellsNoFact, SpellFacts}
use Rattle.cargo_platform.specs.Platforms.{IsConditionText, IsRefusedCondition}
use Rattle.cargo_platform.specs.Facts.{fact_set, truth}
use Rattle.cargo_platform.specs.Print.{print_condition, print_error}
use Rattle.cargo_platform.specs.Warnings.{attribute_warnings, keyword_warnings}
use Rattle.cargo_platform.specs.Errors.{orig_of, fault_in}
use Rattle.platform_answers.specs.declared.Outcome.{Outcome}
use Rattle.platform_answers.specs.declared.Outcome.TheVariants.{Match, NoMatch, Refused}
use Rattle.platform_answers.specs.declared.answering.Refusal.{Refusal}
use Rattle.platform_answers.specs.declared.answering.Refusal.TheVariants.{Line, Memory}
use Rattle.platform_answers.specs.Reading.{IsTooLong}
use Rattle.platform_answers.specs.Lines.{line, lines_of, line_at, fact_lines}

-- the text is not a condition
abbrev pub SpellsNoCondition : List ℕ → Type 0
SpellsNoCondition text = (p : Condition) → IsConditionText text p → ⊥

-- the query in accepted lines: line 1 is the condition, line 2 is the target's name as it is, and each further line is
-- a fact
pub record IsQuery (ls : List (List ℕ)) (condition : Condition) (facts : List CfgValue) : Type 0 where
  pub first : IsConditionText (line_at ls 1) condition
  pub others : SpellFacts (fact_lines ls) facts

-- the line with this number is one of the facts, and is rejected
abbrev pub IsRefusedFact : List (List ℕ) → ℕ → Type 0
IsRefusedFact ls n = (3 ≤ n) × (n ≤ length ls) × SpellsNoFact (line_at ls n)

-- the line with this number is line 1 or one of the facts, and is rejected
abbrev pub IsRefusedLine : List (List ℕ) → ℕ → Type 0
IsRefusedLine ls n = ((n ≡ 1) × SpellsNoCondition (line_at ls 1)) ⊎ IsRefusedFact ls n

-- the smallest number for which something holds
abbrev pub IsLeast : (ℕ → Type 0) → ℕ → Type 0
IsLeast P n = P n × ((m : ℕ) → m < n → P m → ⊥)

-- the error of a text that is rejected as a fact: it is the error of the whole text
abbrev pub IsFactFault : List ℕ → List ℕ → Fault → Type 0
IsFactFault text orig fault = (orig ≡ text) × IsRefused Values text fault

-- the error of the line with this number, and the text that has the error: line 1 is rejected as a condition, and every
-- other line as a fact
abbrev pub IsLineFault : List (List ℕ) → ℕ → List ℕ → Fault → Type 0
IsLineFault ls n orig fault =
    ((n ≡ 1) × IsRefusedCondition (line_at ls 1) orig fault) ⊎ ((3 ≤ n) × IsFactFault (line_at ls n) orig fault)

-- whether the condition is true on a target with this name and these facts
abbrev pub is_match : List ℕ → List CfgValue → Condition → Bool
is_match name facts (Target t) = bytes_eq t name
is_match name facts (Expression e) = truth (fact_set facts) e

abbrev pub match_word : Bool → List ℕ
match_word true = codes "yes"
match_word false = codes "no"

abbrev pub match_outcome : Bool → Outcome
match_outcome true = Match
match_outcome false = NoMatch

-- the warnings on a condition: those on attributes, and then those on keywords, which name `-` as the manifest
abbrev pub warnings : Condition → List (List ℕ)
warnings p = attribute_warnings p ++ keyword_warnings (codes "-") p

-- the line of a warning; its text may have line ends of its own
abbrev pub warning_line : List ℕ → List ℕ
warning_line warning = line (codes "warning: " ++ warning)

-- the lines with a condition in canonical form, and with whether it is true
abbrev pub query_text : Condition → Bool → List ℕ
query_text p met =
    line (codes "condition: " ++ print_condition p) ++ line
    (codes "match: " ++ match_word met) ++ flat_map warning_line (warnings p)

-- the output and the outcome of a query
abbrev pub IsAnswerToQuery : List ℕ → Condition → List CfgValue → List ℕ → Outcome → Type 0
IsAnswerToQuery name p facts output outcome =
    (output ≡ query_text p (is_match name facts p)) × (outcome ≡ match_outcome (is_match name facts p))

-- the output is this one line, and the input is rejected
abbrev pub IsRefusedAs : List ℕ → List ℕ → Outcome → Type 0
IsRefusedAs text output outcome = (output ≡ line text) × (outcome ≡ Refused)

-- the line for a rejected line: its number, and the text of its error
abbrev pub refused_line : ℕ → List ℕ → Fault → List ℕ
refused_line n orig fault = codes "line " ++ decimal n ++ codes ": " ++ print_error orig fault

-- the output and the outcome for the lines: they are a query, or one of them is the first that is rejected
abbrev pub IsAnswerToLines : List (List ℕ) → List ℕ → Outcome → Type 0
IsAnswerToLines ls output outcome =
    ((p : Condition) × (facts : List CfgValue) × IsQuery ls p facts
    × IsAnswerToQuery (line_at ls 2) p facts output outcome)
    ⊎ ((n : ℕ) × (orig : List ℕ) × (fault : Fault) × IsLeast (IsRefusedLine ls) n × IsLineFault ls n orig fault
    × IsRefusedAs (refused_line n orig fault) output outcome)

-- the output and the outcome for an input of these bytes: the whole input is rejected, or its lines are answered
abbrev pub IsAnswer : List ℕ → List ℕ → Outcome → Type 0
IsAnswer bs output outcome =
    (IsTooLong bs × IsRefusedAs (codes "input is longer than 1048576 bytes") output outcome)
    ⊎ ((¬ IsTooLong bs × ¬ IsUtf8 bs × IsRefusedAs (codes "input is not UTF-8") output outcome)
    ⊎ (¬ IsTooLong bs × IsUtf8 bs × IsAnswerToLines (lines_of bs) output outcome))

-- P holds for a rejected line: its number, the text that has the error, and the error
abbrev pub IfLine : Refusal → (ℕ → List ℕ → Fault → Type 0) → Type 0
IfLine (Line n e) P = P n (orig_of e) (fault_in e)
IfLine (Memory e) P = Unit {0}
