-- No `equivalent` is missed: the earlier keys that are known not to be equivalent.
use Rattle.std.specs.Prelude.{◌⊎◌, ℕ, List, Contains}
use Rattle.std.specs.List.{Any}
use Rattle.cargo_platform.specs.Trees.{Condition, condition_of}
use Rattle.exact_answers.specs.declared.fact_constraints.FactConstraints.{FactConstraints}
use Rattle.manifests.specs.Entries.{Entry}
use Rattle.manifest_lints.specs.Classes.{AreClassed}
use Rattle.manifest_lints.specs.Earlier.{AreEquivalent, IsExpression}
use Rattle.manifest_lints.specs.Rustcs.{AllowsRustcs}
use Rattle.manifest_lints.specs.Truths.{IsNever, IsAlways, CanHold, CanFail}
use Rattle.manifest_lints.specs.declared.earlier.Keys.{Keys}
use Rattle.manifest_lints.specs.Sames.{HasSame, IsSpelledAt}

-- the key at this index is the condition, no key before it is the same, and nothing about it is left open
pub record IsSettledAt (es : List Entry) (ns : List ℕ) (d : Condition) (n : ℕ) : Type 0 where
  pub one : IsSpelledAt es d n
  pub first : HasSame one.before d → ⊥
  pub settled : Contains ns n → ⊥

-- no settled key before one is equivalent, if none is the same and the condition is neither never nor always true
abbrev pub MissesNone : FactConstraints → List Entry → List ℕ → Condition → Type 0
MissesNone k es ns c =
    AllowsRustcs k → CanHold k c → CanFail k c → (HasSame es c → ⊥)
    → (d : Condition) (n : ℕ) → IsSettledAt es ns d n → AreEquivalent k d c → ⊥

-- ---- what is kept of the keys so far

-- a condition is equivalent to one that later ones are compared with, or need not be compared
abbrev pub IsCovered : FactConstraints → Keys → Condition → Type 0
IsCovered k keys d =
    Any (λ m. AreEquivalent k (condition_of m.1.now) d) keys.members.items ⊎ (IsNever k d ⊎ IsAlways k d)

-- the expressions of all settled keys are
pub record AreCovered (k : FactConstraints) (es : List Entry) (ns : List ℕ) (keys : Keys) : Type 0 where
  pub classed : AreClassed keys
  pub covered : (d : Condition) (n : ℕ) → IsExpression d → IsSettledAt es ns d n → IsCovered k keys d
