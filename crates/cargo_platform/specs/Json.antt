-- Conditions as JSON strings.
use Rattle.std.specs.Prelude.{◌≡◌, ℕ, List, Result, Ok, Err}
use Rattle.serde_json.specs.Data.{Data, string}
use Rattle.cargo_platform.specs.declared.error.ParseError.{ParseError}
use Rattle.cargo_platform.specs.declared.json.JsonError.{JsonError}
use Rattle.cargo_platform.specs.declared.json.JsonError.TheVariants as errors

-- a statement about the refusal of a text that is not an allocation failure
abbrev pub IfJsonParse : {A : Type 0} → Result A JsonError → (ParseError → Type 0) → Type 0
IfJsonParse (Ok a) P = Unit {0}
IfJsonParse (Err errors.NotText) P = Unit {0}
IfJsonParse (Err (errors.Parse e)) P = P e
IfJsonParse (Err (errors.Memory e)) P = Unit {0}

abbrev pub IsText : Data → Type 0
IsText value = (text : List ℕ) × (value ≡ string text)
