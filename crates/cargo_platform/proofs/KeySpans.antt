-- Where the text of an error is in a key.
use Rattle.std.proofs.Common.{◌≡◌, sym, ◌∙◌, true≢false, ℕ, false, List, Option, Some, None, inl, inr}
use Rattle.std.specs.declared.ops.Range.{Range}
use Rattle.cargo_platform.specs.Faults.{Fault}
use Rattle.cargo_platform.specs.Platforms.{IsCfgOf}
use Rattle.cargo_platform.specs.KeySpans.{is_of_name, IsNotIn, IsSpanInKey}
use Rattle.cargo_platform.proofs.Conditions.{one_inner}

-- what is no target name's is in no key around another text
pub stands_not : (key text inner : List ℕ) (fault : Fault) → is_of_name fault ≡ false → IsCfgOf key inner
    → (inner ≡ text → ⊥) → IsNotIn key text fault
stands_not key text inner fault other around differs place (inl a) = true≢false (sym a.0 ∙ other)
stands_not key text inner fault other around differs place (inr a) = differs (one_inner key inner text around a.1)

pub stands_nowhere : (key text : List ℕ) (fault : Fault) (span : Option (Range ℕ)) (at : Range ℕ)
    (found : Option (Range ℕ)) → span ≡ Some at → found ≡ None
    → IsNotIn key text fault → IsSpanInKey key text fault span found
stands_nowhere key text fault None at found is none not = none
stands_nowhere key text fault (Some span) at None is none not = λ h. not
stands_nowhere key text fault (Some span) at (Some other) is none not = absurd cc
