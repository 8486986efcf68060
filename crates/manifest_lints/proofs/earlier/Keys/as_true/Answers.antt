use Rattle.std.proofs.Common.{◌↔◌, sym, subst, get_or, [], ◌∷◌, Some}
use Rattle.cargo_platform.specs.Trees.{condition_of}
use Rattle.cargo_platform.specs.Facts.{IsTrueCondition}
use Rattle.exact_answers.specs.declared.platforms.Validity.{Validity}
use Rattle.exact_answers.specs.Targets.{SaysValidity}
use Rattle.manifest_lints.specs.Earlier.{AreEquivalent, MayBeUndecided}
use Rattle.manifest_lints.proofs.Noting.{member_at, undecided_at, none_compared}
use Rattle.manifest_lints.proofs.Noting.{one_compared, not_member_at, not_alike, none_past, all_compared}
use Rattle.manifest_lints.proofs.earlier.Keys.as_true.Goals as goal

pub returns-in-Yes-clause-equivalent : goal.returns-in-Yes-clause-equivalent
returns-in-Yes-clause-equivalent c =
    let k = c.args.known.now in
    let p = condition_of c.args.platform.now in
    let q = condition_of c.in-Some-get.field-0.now.1.now in
    let says : Validity → Type 0 = λ a. SaysValidity a k (q ∷ p ∷ []) c.in-Some-budget.splits
    (λ name s. (IsTrueCondition name s q ↔ IsTrueCondition name s p) → ⊥)
    (λ name s. IsTrueCondition name s q ↔ IsTrueCondition name s p) in
    let alike : AreEquivalent k q p = subst says c.in-Yes.is c.in_ok-equivalent_platform.ensures in
    let found = c.in-Some-get.ensures.lookup in
    member_at k c.deref.result.now c.args.self.now p _ c.in-Some-get.field-0.now c.deref.ensures.value (sym found.0)
    found.1 alike

pub returns-in-Undecided-clause-undecided : goal.returns-in-Undecided-clause-undecided
returns-in-Undecided-clause-undecided c = λ is.
    let k = c.args.known.now in
    let p = condition_of c.args.platform.now in
    let q = condition_of c.in-Some-get.field-0.now.1.now in
    let says : Validity → Type 0 = λ a. SaysValidity a k (q ∷ p ∷ []) c.in-Some-budget.splits
    (λ name s. (IsTrueCondition name s q ↔ IsTrueCondition name s p) → ⊥)
    (λ name s. IsTrueCondition name s q ↔ IsTrueCondition name s p) in
    let found = c.in-Some-get.ensures.lookup in
    subst (λ b. MayBeUndecided k b c.args.self.now p) (sym c.in-Some-budget.is)
    (undecided_at k c.deref.result.now c.args.self.now p _ c.in-Some-budget.splits c.in-Some-get.field-0.now
    c.deref.ensures.value (sym found.0) found.1 (subst says c.in-Undecided.is c.in_ok-equivalent_platform.ensures))

pub places-init : goal.places-init
places-init c =
    none_compared c.args.known.now c.args.self.now (condition_of c.args.platform.now) c.deref-place-items.result.now

pub places-preserved : goal.places-preserved
places-preserved c =
    let k = c.args.known.now in
    let p = condition_of c.args.platform.now in
    let m = c.in-Some-get.field-0.now in
    let q = condition_of m.1.now in
    let says : Validity → Type 0 = λ a. SaysValidity a k (q ∷ p ∷ []) c.in-Some-budget.splits
    (λ name s. (IsTrueCondition name s q ↔ IsTrueCondition name s p) → ⊥)
    (λ name s. IsTrueCondition name s q ↔ IsTrueCondition name s p) in
    let ns = c.deref-place-items.result.now in
    let found = c.in-Some-get.ensures.lookup in
    one_compared k c.args.self.now p ns c.places.place-index 0 c.places-test.true c.places.invariant
    (not_member_at k c.deref.result.now c.args.self.now p (get_or ns c.places.place-index 0) m c.deref.ensures.value
    found.1 (not_alike k q p c.in-No.field-0 (subst says c.in-No.is c.in_ok-equivalent_platform.ensures)))

pub places-preserved-in_default-get : goal.places-preserved-in_default-get
places-preserved-in_default-get c =
    let k = c.args.known.now in
    let p = condition_of c.args.platform.now in
    let ns = c.deref-place-items.result.now in
    one_compared k c.args.self.now p ns c.places.place-index 0 c.places-test.true c.places.invariant
    (none_past k c.deref.result.now c.args.self.now p (get_or ns c.places.place-index 0) c.deref.ensures.value
    (sym c.in_default-get.ensures.lookup.0))

pub returns-clause-unlike : goal.returns-clause-unlike
returns-clause-unlike c = λ is.
    all_compared c.args.known.now c.args.self.now (condition_of c.args.platform.now) c.deref-place-items.result.now
    c.args.class.now c.places.place-index (Some c.in-Some.places.now) c.places-test.false c.places.invariant
    c.deref-place-items.ensures.value c.in-Some.ensures.value
