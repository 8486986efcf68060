-- A statement about a refusal.
use Rattle.std.specs.Prelude.{Result, Ok, Err}
use Rattle.spdx_expressions.specs.declared.error.ParseError.{ParseError}
use Rattle.spdx_expressions.specs.declared.error.ReadError.{ReadError}
use Rattle.spdx_expressions.specs.declared.error.ReadError.TheVariants as errors

-- about the fault of a text; nothing is said of an allocation failure
abbrev pub OfParse : ReadError → (ParseError → Type 0) → Type 0
OfParse (errors.Parse e) P = P e
OfParse (errors.Memory e) P = Unit {0}

abbrev pub IfParse : {A : Type 0} → Result A ReadError → (ParseError → Type 0) → Type 0
IfParse (Ok a) P = Unit {0}
IfParse (Err e) P = OfParse e P
