-- Laws of the text before the span of a fault, and of spans in a text of facts.
use Rattle.std.specs.Prelude.{◌≡◌, ◌⊎◌, ℕ, Bool, List, [], codes, take, drop, Option, Some, IsFalse}
use Rattle.std.specs.declared.ops.Range.{Range}
use Rattle.cargo_platform.specs.declared.tokens.TokenFaultKind.{TokenFaultKind}
use Rattle.cargo_platform.specs.declared.fact_lines.FactsError.{FactsError}
use Rattle.cargo_platform.specs.declared.fact_lines.FactsError.TheVariants.{Line, Memory}
use Rattle.cargo_platform.specs.Cut.{IsCut, Item, Lexical}
use Rattle.cargo_platform.specs.Spelling.{Grammar, Values}
use Rattle.cargo_platform.specs.Faults.{Fault, IsRefused, IsRefusedAt, span_of}
use Rattle.cargo_platform.specs.FaultLaws.{IsSpanIn}
use Rattle.cargo_platform.specs.Errors.{orig_of, fault_in, span_in}
use Rattle.cargo_platform.specs.Lines.{lines_of, line_at}
use Rattle.cargo_platform.specs.FactLines.{IsFirstNoFact, IsSpanInFacts}

-- the text before the span of a fault
abbrev pub before_span : {g : Grammar} {text : List ℕ} {fault : Fault} → IsRefused g text fault → List ℕ
before_span {text = text} r = take (span_of text r.accepted r.next).start text

-- nothing, or the mark `r#` of a lexical fault that comes at this position after a prefix that is not accepted
abbrev pub IsNothingOrMark : List ℕ → Bool → Item → ℕ → Type 0
IsNothingOrMark left accepted next place =
    (left ≡ []) ⊎ ((left ≡ codes "r#") × IsFalse accepted × ((kind : TokenFaultKind) × (next ≡ Lexical kind place)))

-- the text before the span is cut into the tokens of the fault prefix, and nothing of it is left but such a mark
abbrev pub IsCutBefore : {g : Grammar} {text : List ℕ} {fault : Fault} → IsRefused g text fault → Type 0
IsCutBefore r =
    (tail : ℕ) × IsCut (before_span r) r.prefix tail
    × IsNothingOrMark (drop tail (before_span r)) r.accepted r.next tail

-- the error of a refused text of facts: it is about the first line that spells no fact, with the fault and the span of
-- that line
abbrev pub IsErrorOfFacts : List ℕ → FactsError → Type 0
IsErrorOfFacts text (Line number e) =
    IsFirstNoFact (lines_of text) number × (orig_of e ≡ line_at (lines_of text) number)
    × IsRefusedAt Values (line_at (lines_of text) number) (fault_in e) (span_in e)
IsErrorOfFacts text (Memory e) = ⊥

-- if a text of facts is refused, a span is within it, in order, and begins and ends between characters
abbrev pub IsFoundInFacts : List ℕ → FactsError → Option (Range ℕ) → Type 0
IsFoundInFacts text error found = IsErrorOfFacts text error
    → IsSpanInFacts text error found → (at : Range ℕ) × (found ≡ Some at) × IsSpanIn text at
