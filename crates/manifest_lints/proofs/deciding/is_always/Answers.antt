use Rattle.std.proofs.Common.{subst, sym, true≢false, [], ◌∷◌, IsTrue}
use Rattle.cargo_platform.specs.Trees.{condition_of}
use Rattle.cargo_platform.specs.Facts.{IsTrueCondition}
use Rattle.exact_answers.specs.declared.platforms.Validity.{Validity}
use Rattle.exact_answers.specs.Targets.{SaysValidity}
use Rattle.manifest_lints.specs.declared.deciding.Decided.{Decided}
use Rattle.manifest_lints.specs.Truths.{SaysAlways, NeedsMoreFor, is_unknown}
use Rattle.manifest_lints.proofs.Verdicts.{as_ok, each_ok, can_fail}
use Rattle.manifest_lints.proofs.deciding.is_always.Goals as goal
use Rattle.manifest_lints.proofs.deciding.is_always.Goals.{in-Yes, in-No, in-Undecided}

pub returns-clause-says : goal.returns-clause-says
returns-clause-says c =
    let k = c.args.known.now in
    let p = condition_of c.args.platform.now in
    let says : Validity → Type 0 = λ a. SaysValidity a k (p ∷ []) c.args.budget
    (λ name s. IsTrueCondition name s p → ⊥) (λ name s. IsTrueCondition name s p) in
    elim c.match-branch-2.branch [
      | in-Yes w ↦
          as_ok (λ d. SaysAlways d k p) _ _ w.result-is (subst says w.in-Yes.is c.in_ok-always_platform.ensures)
      | in-No w ↦
          as_ok (λ d. SaysAlways d k p) _ _ w.result-is
          (can_fail k p w.in-No.field-0 (subst says w.in-No.is c.in_ok-always_platform.ensures))
      | in-Undecided w ↦ as_ok (λ d. SaysAlways d k p) _ _ w.result-is w.unless_shown.ensures
    ]

pub returns-clause-unknown : goal.returns-clause-unknown
returns-clause-unknown c =
    let k = c.args.known.now in
    let p = condition_of c.args.platform.now in
    let says : Validity → Type 0 = λ a. SaysValidity a k (p ∷ []) c.args.budget
    (λ name s. IsTrueCondition name s p → ⊥) (λ name s. IsTrueCondition name s p) in
    let N : Decided → Type 0 = λ d. IsTrue (is_unknown d) → NeedsMoreFor k p c.args.budget in
    elim c.match-branch-2.branch [
      | in-Yes w ↦ as_ok N _ _ w.result-is (λ h. absurd (true≢false (sym h)))
      | in-No w ↦ as_ok N _ _ w.result-is (λ h. absurd (true≢false (sym h)))
      | in-Undecided w ↦
          as_ok N _ _ w.result-is
          (each_ok N w.unless_shown.result
          (λ d h. subst says w.in-Undecided.is c.in_ok-always_platform.ensures))
    ]
