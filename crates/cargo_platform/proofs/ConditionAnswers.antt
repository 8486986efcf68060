-- The result for the text of a condition, case by case.
use Rattle.std.proofs.Common.{◌≡◌, sym, subst, ℕ, List, inl, Err}
use Rattle.cargo_platform.specs.declared.error.ReadError.{ReadError}
use Rattle.cargo_platform.specs.declared.error.ReadError.TheVariants as errors
use Rattle.cargo_platform.specs.Spelling.{Expressions}
use Rattle.cargo_platform.specs.Faults.{IsRefused, IsRefusedAt}
use Rattle.cargo_platform.specs.Platforms.{IsCfgOf, IsRefusedCondition, IsRefusedConditionAt}
use Rattle.cargo_platform.specs.Errors.{IfParse, orig_of, fault_in, span_in}

-- the fault of the text between `cfg(` and `)` is that of the whole text
pub expression_fault : (A B : Type 0) (text inner : List ℕ) (x : ReadError) → IsCfgOf text inner
    → IfParse {A = A} (Err x) (λ e. orig_of e ≡ inner)
    → IfParse {A = A} (Err x) (λ e. IsRefused Expressions inner (fault_in e))
    → IfParse {A = B} (Err x) (λ e. IsRefusedCondition text (orig_of e) (fault_in e))
expression_fault A B text inner (errors.Parse e) h orig fault =
    inl (rw orig (h, fault))
expression_fault A B text inner (errors.Memory e) h orig fault = tt

-- and so is its span
pub expression_span : (A B : Type 0) (text inner : List ℕ) (x : ReadError) → IsCfgOf text inner
    → IfParse {A = A} (Err x) (λ e. orig_of e ≡ inner)
    → IfParse {A = A} (Err x) (λ e. IsRefusedAt Expressions inner (fault_in e) (span_in e))
    → IfParse {A = B} (Err x) (λ e. IsRefusedConditionAt text (orig_of e) (fault_in e) (span_in e))
expression_span A B text inner (errors.Parse e) h orig span =
    let P : List ℕ → Type 0 = λ z. IsCfgOf text z × IsRefusedAt Expressions z (fault_in e) (span_in e) in
    inl (subst P (sym orig) (h, span))
expression_span A B text inner (errors.Memory e) h orig span = tt
