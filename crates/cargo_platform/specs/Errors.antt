-- What an error says, whatever its place in memory.
use Rattle.std.specs.Prelude.{ℕ, List, map, String, Vec, string_bytes, box_value, Option, Some, None, Result, Ok, Err}
use Rattle.std.specs.declared.alloc.Global.{Global}
use Rattle.std.specs.declared.ops.Range.{Range}
use Rattle.cargo_platform.specs.declared.error.ParseErrorKind.{ParseErrorKind}
use Rattle.cargo_platform.specs.declared.error.ParseErrorKind.TheVariants as kind
use Rattle.cargo_platform.specs.declared.error.ParseError.{ParseError}
use Rattle.cargo_platform.specs.declared.error.ReadError.{ReadError}
use Rattle.cargo_platform.specs.declared.error.ReadError.TheVariants as errors
use Rattle.cargo_platform.specs.Faults.{Fault, UnterminatedString, UnexpectedChar, UnexpectedToken, IncompleteExpr}
use Rattle.cargo_platform.specs.Faults.{UnterminatedExpression, InvalidTarget}
use Rattle.cargo_platform.specs.Print.{print_error}

-- the fault that a kind means
abbrev pub fault_meant : ParseErrorKind → Fault
fault_meant kind.UnterminatedString = UnterminatedString
fault_meant (kind.UnexpectedChar c) = UnexpectedChar c
fault_meant (kind.UnexpectedToken expected found) = UnexpectedToken expected.now found.now
fault_meant (kind.IncompleteExpr expected) = IncompleteExpr expected.now
fault_meant (kind.UnterminatedExpression s) = UnterminatedExpression (string_bytes s)
fault_meant (kind.InvalidTarget s) = InvalidTarget (string_bytes s)

-- the text that the error is about, and the reason
abbrev pub orig_of : ParseError → List ℕ
orig_of e = string_bytes (box_value e.refused).orig

abbrev pub fault_in : ParseError → Fault
fault_in e = fault_meant e.kind

-- the place of the fault in that text; an error that is built by hand has none
abbrev pub span_in : ParseError → Option (Range ℕ)
span_in e = (box_value e.refused).span

-- a statement about a refusal that is not an allocation failure
abbrev pub IfParse : {A : Type 0} → Result A ReadError → (ParseError → Type 0) → Type 0
IfParse (Ok a) P = Unit {0}
IfParse (Err (errors.Parse e)) P = P e
IfParse (Err (errors.Memory e)) P = Unit {0}

-- the texts in a list of strings
abbrev pub texts : Vec (String Global) Global → List (List ℕ)
texts v = map (λ s. string_bytes s) v.items

-- what a refusal prints: the text of a parse error; nothing is said of an allocation failure
abbrev pub print_refusal : ReadError → Option (List ℕ)
print_refusal (errors.Parse e) = Some (print_error (orig_of e) (fault_in e))
print_refusal (errors.Memory e) = None
