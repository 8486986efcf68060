-- The answers on a rejected text.
use Rattle.std.specs.Prelude.{◌≡◌, ⊤, ℕ, List, [], ◌++◌, codes, Option, Some, None, String, string_bytes}
use Rattle.std.specs.Fmt.{decimal}
use Rattle.std.specs.declared.alloc.Global.{Global}
use Rattle.std.specs.declared.ops.Range.{Range}
use Rattle.cargo_platform.specs.Faults.{Fault, IsRefusedAt}
use Rattle.cargo_platform.specs.Spelling.{Values}
use Rattle.cargo_platform.specs.Lines.{lines_of, line_at}
use Rattle.cargo_platform.specs.FactLines.{IsFirstNoFact, BeginsLine}
use Rattle.cargo_platform.specs.Errors.{orig_of, fault_in, span_in}
use Rattle.cargo_platform.specs.declared.fact_lines.FactsError.{FactsError}
use Rattle.cargo_platform.specs.declared.fact_lines.FactsError.TheVariants.{Line, Memory}
use Rattle.cargo_platform.specs.Platforms.{IsRefusedConditionAt}
use Rattle.cargo_platform.specs.KeySpans.{IsSpanBy, IsSpanInKey, IsSnippetOfKey}
use Rattle.cargo_platform.specs.Print.{print_error}
use Rattle.byte_answers.specs.declared.outcome.Outcome.{Outcome}
use Rattle.byte_answers.specs.Outcomes.{IsWritten}

-- these are the ends of a span that may be missing
abbrev pub AreEnds : Option (Range ℕ) → ℕ → ℕ → Type 0
AreEnds None start end = (start ≡ 0) × (end ≡ 0)
AreEnds (Some span) start end = (start ≡ span.start) × (end ≡ span.end)

-- the key is rejected: the message of the error is written to the buffer, and the outcome has the ends of its span in
-- the key
abbrev pub IsRefusal : List ℕ → Outcome → List ℕ → List ℕ → Type 0
IsRefusal key o old new =
    (orig : List ℕ) × ((fault : Fault) × ((span at : Option (Range ℕ)) × (IsRefusedConditionAt key orig fault span
    × IsSpanInKey key orig fault span at × AreEnds at o.start o.end
    × IsWritten (print_error orig fault) o.needed old new)))

-- the text of a snippet, if there is one
abbrev pub shown_lines : Option (String Global) → List ℕ
shown_lines None = []
shown_lines (Some snippet) = string_bytes snippet

-- the key is rejected: the snippet that shows the error is written to the buffer, and the outcome has the ends of the
-- span
abbrev pub IsShownRefusal : List ℕ → Outcome → List ℕ → List ℕ → Type 0
IsShownRefusal key o old new =
    (orig : List ℕ) × ((fault : Fault) × ((span at : Option (Range ℕ)) × ((snippet : Option (String Global))
    × (IsRefusedConditionAt key orig fault span × IsSpanInKey key orig fault span at × AreEnds at o.start o.end
    × IsSnippetOfKey key orig fault span snippet × IsWritten (shown_lines snippet) o.needed old new))))

-- the message on a line of facts that is rejected
abbrev pub print_refused_line : ℕ → List ℕ → Fault → List ℕ
print_refused_line n line fault = codes "line " ++ decimal n ++ codes ": " ++ print_error line fault

-- a line is not a fact: the message on the first such line, with its number, is written to the buffer, and the outcome
-- has the ends of the error's span in all lines
abbrev pub IsRefusedLine : List ℕ → Outcome → List ℕ → List ℕ → Type 0
IsRefusedLine lines o old new =
    (n : ℕ) × ((line : List ℕ) × ((fault : Fault) × ((span at : Option (Range ℕ)) × (IsFirstNoFact (lines_of lines) n
    × (line ≡ line_at (lines_of lines) n) × IsRefusedAt Values line fault span
    × IsSpanBy (BeginsLine lines n line) line span at × AreEnds at o.start o.end
    × IsWritten (print_refused_line n line fault) o.needed old new))))

-- the error is of these lines: it has the number of the first line that is not a fact, with its error and span
abbrev pub IsErrorOfLines : List ℕ → FactsError → Type 0
IsErrorOfLines lines (Line n e) =
    IsFirstNoFact (lines_of lines) n × (orig_of e ≡ line_at (lines_of lines) n)
    × IsRefusedAt Values (line_at (lines_of lines) n) (fault_in e) (span_in e)
IsErrorOfLines lines (Memory e) = ⊤
