-- A text with a fact on each line, and the result for such a text.
use Rattle.std.specs.Prelude.{◌≡◌, ℕ, ◌≤◌, ◌-◌, List, [], ◌∷◌, ◌++◌, length, take, codes, Option, Some, None}
use Rattle.std.specs.Prelude.{Result, Ok, Err}
use Rattle.std.specs.Fmt.{decimal}
use Rattle.std.specs.declared.ops.Range.{Range}
use Rattle.cargo_platform.specs.declared.error.ParseError.{ParseError}
use Rattle.cargo_platform.specs.declared.fact_lines.FactsError.{FactsError}
use Rattle.cargo_platform.specs.declared.fact_lines.FactsError.TheVariants.{Line, Memory}
use Rattle.cargo_platform.specs.Trees.{CfgValue}
use Rattle.cargo_platform.specs.Spelling.{IsValueText}
use Rattle.cargo_platform.specs.Print.{print_error}
use Rattle.cargo_platform.specs.Errors.{orig_of, fault_in, span_in}
use Rattle.cargo_platform.specs.Lines.{lines_of, line_at, ended}
use Rattle.cargo_platform.specs.KeySpans.{IsSpanBy}

-- the text spells no name and no pair
abbrev pub SpellsNoFact : List ℕ → Type 0
SpellsNoFact text = (c : CfgValue) → IsValueText text c → ⊥

-- each line spells the fact at the same index, and there are as many facts as lines
abbrev pub SpellFacts : List (List ℕ) → List CfgValue → Type 0
SpellFacts [] [] = Unit {0}
SpellFacts [] (fact ∷ facts) = ⊥
SpellFacts (text ∷ texts) [] = ⊥
SpellFacts (text ∷ texts) (fact ∷ facts) = IsValueText text fact × SpellFacts texts facts

-- the line with this number is the first that spells no fact
pub record IsFirstNoFact (ls : List (List ℕ)) (n : ℕ) : Type 0 where
  pub numbered : (1 ≤ n) × (n ≤ length ls)
  pub before : (facts : List CfgValue) × SpellFacts (take (n - 1) ls) facts
  pub here : SpellsNoFact (line_at ls n)

-- a statement about a refused line: its number, and its error
abbrev pub IfLine : {A : Type 0} → Result A FactsError → (ℕ → ParseError → Type 0) → Type 0
IfLine (Ok a) P = Unit {0}
IfLine (Err (Line n e)) P = P n e
IfLine (Err (Memory e)) P = Unit {0}

-- what an error prints: the number of the line, and the text of its fault; nothing is said of an allocation failure
abbrev pub print_facts_error : FactsError → Option (List ℕ)
print_facts_error (Line n e) = Some (codes "line " ++ decimal n ++ codes ": " ++ print_error (orig_of e) (fault_in e))
print_facts_error (Memory e) = None

-- the byte at which the line with this number begins, after the lines before it and their ends
abbrev pub BeginsLine : List ℕ → ℕ → List ℕ → ℕ → Type 0
BeginsLine text number line place =
    (1 ≤ number) × (number ≤ length (lines_of text)) × (line_at (lines_of text) number ≡ line)
    × (place ≡ length (ended (take (number - 1) (lines_of text))))

-- the place of an error's fault in the text of facts: in the line with its number
abbrev pub IsSpanInFacts : List ℕ → FactsError → Option (Range ℕ) → Type 0
IsSpanInFacts text (Line number e) found =
    IsSpanBy (BeginsLine text number (orig_of e)) (orig_of e) (span_in e) found
IsSpanInFacts text (Memory e) found = found ≡ None
