-- How facts, errors of keys and statuses are printed.
use Rattle.std.specs.Prelude.{◌≡◌, ℕ, Bool, true, false, List, None, Some, ◌++◌, ◌==◌, ◌&&◌, codes, nat_eq, not}
use Rattle.std.specs.Prelude.{slice_range}
use Rattle.std.specs.List.{ends_with, list_any, starts_with}
use Rattle.std.specs.Str.{chars}
use Rattle.std.specs.declared.ops.Range.{Range}
use Rattle.cargo_platform.specs.Errors.{fault_in, span_in}
use Rattle.cargo_platform.specs.FaultLaws.{IsSpanIn}
use Rattle.cargo_platform.specs.Print.{print_fault}
use Rattle.cargo_platform.specs.Snippets.{shown_line}
use Rattle.cargo_platform.specs.Trees.{CfgValue, Alone, KeyPair}
use Rattle.cargo_platform.specs.declared.error.ParseError.{ParseError}
use Rattle.input_limits.specs.Limits.{too_deep_message}
use Rattle.key_answers.specs.declared.answer.Status.{Status}
use Rattle.key_answers.specs.declared.answer.Status.TheVariants as status

-- a fact as rustc prints it, and a line end
abbrev pub fact_line : CfgValue → List ℕ
fact_line (Alone n) = n.name ++ codes "\n"
fact_line (KeyPair k v) = k.name ++ codes "=\"" ++ v ++ codes "\"\n"

abbrev pub code_of : Status → ℕ
code_of status.Fine = 0
code_of status.Found = 1
code_of status.Unusable = 2

-- a statement about a key that is too deep
abbrev pub key_too_deep_message : ℕ → List ℕ
key_too_deep_message at = codes "error: the key is " ++ too_deep_message at ++ codes "\n"

-- a key that begins with `cfg(` and does not end with `)`
abbrev pub is_unclosed : List ℕ → Bool
is_unclosed key = starts_with nat_eq key (codes "cfg(") && not (ends_with nat_eq key (codes ")"))

-- a key that contains `(` and does not begin with `cfg(`
abbrev pub is_unopened : List ℕ → Bool
is_unopened key = list_any (λ c. c == 0x28) key && not (starts_with nat_eq key (codes "cfg("))

-- why a text is rejected, as it is displayed, and shortened
abbrev pub error_text : ParseError → List ℕ
error_text e = shown_line (chars (print_fault (fault_in e))) 0 0

-- the same for a key that contains `(` and does not begin with `cfg(`: it names the character at the span
abbrev pub unopened_text : List ℕ → Range ℕ → List ℕ
unopened_text key at =
    codes "invalid target specifier: unexpected `"
    ++ (shown_line (chars (slice_range key at.start at.end)) 0 0
    ++ codes "` character, cfg expressions must start with `cfg(`")

-- Why a key is rejected: that it is not closed, or not opened, and else the error.
pub record IsKeyReason (key : List ℕ) (e : ParseError) (reason : List ℕ) : Type 0 where
  pub unclosed : is_unclosed key ≡ true → reason ≡ codes "it begins with `cfg(` and does not end with `)`"
  pub unopened : is_unclosed key ≡ false → is_unopened key ≡ true → (at : Range ℕ) → span_in e ≡ Some at
      → IsSpanIn key at → reason ≡ unopened_text key at
  pub placeless : is_unclosed key ≡ false → is_unopened key ≡ true → span_in e ≡ None → reason ≡ error_text e
  pub other : is_unclosed key ≡ false → is_unopened key ≡ false → reason ≡ error_text e
