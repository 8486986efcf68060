-- The place of a fault in the key of a manifest: an error is about the whole key, or about the text in its `cfg(..)`.
use Rattle.std.specs.Prelude.{◌≡◌, ◌⊎◌, ℕ, ◌+◌, Bool, true, false, List, Option, Some, None, IsTrue, IsFalse, String}
use Rattle.std.specs.declared.alloc.Global.{Global}
use Rattle.std.specs.declared.ops.Range.{Range}
use Rattle.cargo_platform.specs.Faults.{Fault, InvalidTarget, from_to}
use Rattle.cargo_platform.specs.FaultLaws.{IsSpanIn}
use Rattle.cargo_platform.specs.Platforms.{IsCfgOf, IsRefusedConditionAt}
use Rattle.cargo_platform.specs.Snippets.{IsSnippet}

-- the fault is about a target name, not about an expression
abbrev pub is_of_name : Fault → Bool
is_of_name (InvalidTarget message) = true
is_of_name _ = false

-- The byte of the key at which the text of a fault begins: a refused target name is the key, and every other text is
-- between `cfg(` and `)`.
abbrev pub BeginsIn : List ℕ → List ℕ → Fault → ℕ → Type 0
BeginsIn key text fault place =
    (IsTrue (is_of_name fault) × (key ≡ text) × (place ≡ 0))
    ⊎ (IsFalse (is_of_name fault) × IsCfgOf key text × (place ≡ 4))

-- the text is not there
abbrev pub IsNotIn : List ℕ → List ℕ → Fault → Type 0
IsNotIn key text fault = (place : ℕ) → BeginsIn key text fault place → ⊥

-- a span that is moved by a number of bytes
abbrev pub further : ℕ → Range ℕ → Range ℕ
further place span = from_to (span.start + place) (span.end + place)

-- the place of a text's span in a larger text, by the positions where the text begins there: none if there are none
abbrev pub LiesBy : (ℕ → Type 0) → Range ℕ → Option (Range ℕ) → Type 0
LiesBy Begins span None = (place : ℕ) → Begins place → ⊥
LiesBy Begins span (Some found) = (place : ℕ) × Begins place × (found ≡ further place span)

-- the same for a span that may be missing
abbrev pub IsSpanBy : (ℕ → Type 0) → List ℕ → Option (Range ℕ) → Option (Range ℕ) → Type 0
IsSpanBy Begins text None found = found ≡ None
IsSpanBy Begins text (Some span) found = IsSpanIn text span → LiesBy Begins span found

-- the place of an error's fault in the key, by the error's text, fault and span
abbrev pub IsSpanInKey : List ℕ → List ℕ → Fault → Option (Range ℕ) → Option (Range ℕ) → Type 0
IsSpanInKey key text fault span found = IsSpanBy (BeginsIn key text fault) text span found

-- the snippet that shows the key
abbrev pub IsSnippetOfKey : List ℕ → List ℕ → Fault → Option (Range ℕ) → Option (String Global) → Type 0
IsSnippetOfKey key text fault span snippet =
    (found : Option (Range ℕ)) × IsSpanInKey key text fault span found × IsSnippet key found fault snippet

-- if a key is refused as a condition, a span is within it, in order, and begins and ends between characters
abbrev pub IsFoundInKey : List ℕ → List ℕ → Fault → Range ℕ → Option (Range ℕ) → Type 0
IsFoundInKey key text fault span found = IsRefusedConditionAt key text fault (Some span)
    → IsSpanInKey key text fault (Some span) found → (at : Range ℕ) × (found ≡ Some at) × IsSpanIn key at
