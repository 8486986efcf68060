-- What a diagnostic has besides its message: the position of the error in a rejected key, and a text that can replace a
-- key.
use Rattle.std.specs.Prelude.{◌≡◌, ℕ, false, List, [], IsTrue, bytes_eq, None}
use Rattle.cargo_platform.specs.Trees.{Condition}
use Rattle.cargo_platform.specs.Errors.{orig_of, fault_in, span_in}
use Rattle.cargo_platform.specs.KeySpans.{IsSpanInKey, IsSnippetOfKey}
use Rattle.cargo_platform.specs.Platforms.{IsConditionText}
use Rattle.cargo_platform.specs.Print.{print_condition}
use Rattle.predicate_classes.specs.declared.classes.Category.TheVariants as category
use Rattle.predicate_classes.specs.Classes.{has_category, classified_in, IsUnknownTarget}
use Rattle.manifest_lints_findings.specs.Known.{has_marked_literal}
use Rattle.manifest_lints_findings.specs.declared.codes.KeyLint.{KeyLint}
use Rattle.manifest_lints_findings.specs.declared.codes.KeyLint.TheVariants as code
use Rattle.manifest_lints_findings.specs.declared.findings.Finding.{Finding}
use Rattle.manifest_lints_findings.specs.declared.known_keys.AnalysedKey.{AnalysedKey}
use Rattle.manifest_lints_findings.specs.declared.readings.KeyMeaning.{KeyMeaning}
use Rattle.manifest_lints_findings.specs.declared.readings.KeyMeaning.TheVariants as spelled

-- for a rejected key, the span and the two lines are those of its error, and for any other key there are none
abbrev pub IsShownBy : List ℕ → KeyMeaning → Finding → Type 0
IsShownBy key (spelled.Refused e) f =
    IsSpanInKey key (orig_of e) (fault_in e) (span_in e) f.span
    × IsSnippetOfKey key (orig_of e) (fault_in e) (span_in e) f.snippet
IsShownBy key (spelled.Condition p) f = (f.span ≡ None) × (f.snippet ≡ None)
IsShownBy key (spelled.ByCargo m) f = (f.span ≡ None) × (f.snippet ≡ None)

abbrev pub IsShownOn : KeyLint → AnalysedKey → Finding → Type 0
IsShownOn code.Refused k f = IsShownBy k.read.now.text.now k.read.now.spelled f
IsShownOn c k f = (f.span ≡ None) × (f.snippet ≡ None)

-- the lint reports nothing on this text, which is the condition; a text that is a condition is not rejected
abbrev pub IsRidOf : KeyLint → List ℕ → Condition → Type 0
IsRidOf code.Refused text c = Unit {0}
IsRidOf code.UnknownTarget text c = IsUnknownTarget c → ⊥
IsRidOf code.UnknownFact text c = has_category category.Mistaken (classified_in [] c) ≡ false
IsRidOf code.ReadOtherwise text c = has_marked_literal (classified_in [] c) ≡ false
IsRidOf code.NotCanonical text c = IsTrue (bytes_eq (print_condition c) text)
IsRidOf _ text c = ⊥

-- the text is a condition on which the lint reports nothing
abbrev pub IsMended : KeyLint → List ℕ → Type 0
IsMended code text = (c : Condition) × IsConditionText text c × IsRidOf code text c
