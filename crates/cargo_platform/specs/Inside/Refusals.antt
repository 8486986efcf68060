-- For proofs: the error that reports a refusal.
use Rattle.std.specs.Prelude.{◌≡◌, ℕ, List, Option, Some, None}
use Rattle.cargo_platform.specs.declared.error.ReadError.{ReadError}
use Rattle.cargo_platform.specs.declared.error.ReadError.TheVariants as errors
use Rattle.cargo_platform.specs.declared.refusal.Refusal.{Refusal}
use Rattle.cargo_platform.specs.declared.refusal.Refusal.TheVariants as refusal
use Rattle.std.specs.Prelude.{Bool}
use Rattle.std.specs.declared.ops.Range.{Range}
use Rattle.cargo_platform.specs.Tokens.{Lexeme}
use Rattle.cargo_platform.specs.Cut.{Item}
use Rattle.cargo_platform.specs.Spelling.{Grammar}
use Rattle.cargo_platform.specs.Faults.{Fault, UnexpectedToken, IncompleteExpr, UnterminatedExpression, lexical_fault}
use Rattle.cargo_platform.specs.Faults.{fault_of, span_of}
use Rattle.cargo_platform.specs.Errors.{orig_of, fault_in, span_in}

-- a fault, and its span
pub record FaultAt : Type 0 where
  pub fault : Fault
  pub span : Range ℕ

abbrev pub placed_fault : Range ℕ → Option Fault → Option FaultAt
placed_fault span None = None
placed_fault span (Some fault) = Some (record { fault = fault; span = span })

-- the fault with its span, from the arguments of `fault_of` and `span_of`
abbrev pub fault_at_of : Grammar → List ℕ → Bool → Option Lexeme → Item → Option FaultAt
fault_at_of g text accepted last next = placed_fault (span_of text accepted next) (fault_of g text accepted last next)

-- the fault of a refusal that is not an allocation failure
abbrev pub refused_fault : Refusal → Option Fault
refused_fault (refusal.Unexpected expected found span) = Some (UnexpectedToken expected.now found.now)
refused_fault (refusal.Incomplete expected span) = Some (IncompleteExpr expected.now)
refused_fault (refusal.Lexical k span) = Some (lexical_fault k)
refused_fault (refusal.Unterminated rest span) = Some (UnterminatedExpression rest.text.now)
refused_fault (refusal.Memory e) = None

-- its span
abbrev pub refused_span : Refusal → Option (Range ℕ)
refused_span (refusal.Unexpected expected found span) = Some span
refused_span (refusal.Incomplete expected span) = Some span
refused_span (refusal.Lexical k span) = Some span
refused_span (refusal.Unterminated rest span) = Some span
refused_span (refusal.Memory e) = None

-- both
abbrev pub refused_at : Refusal → Option FaultAt
refused_at (refusal.Unexpected expected found span) =
    Some (record { fault = UnexpectedToken expected.now found.now; span = span })
refused_at (refusal.Incomplete expected span) = Some (record { fault = IncompleteExpr expected.now; span = span })
refused_at (refusal.Lexical k span) = Some (record { fault = lexical_fault k; span = span })
refused_at (refusal.Unterminated rest span) =
    Some (record { fault = UnterminatedExpression rest.text.now; span = span })
refused_at (refusal.Memory e) = None

-- the error that reports a refusal of a text
abbrev pub Becomes : Refusal → List ℕ → ReadError → Type 0
Becomes r orig (errors.Parse e) =
    (orig_of e ≡ orig) × (refused_fault r ≡ Some (fault_in e)) × (refused_span r ≡ span_in e)
Becomes r orig (errors.Memory e) = Unit {0}
