use Rattle.std.proofs.Common.{subst, sym, true≢false, [], ◌∷◌, IsTrue}
use Rattle.cargo_platform.specs.Trees.{condition_of}
use Rattle.cargo_platform.specs.Facts.{IsTrueCondition}
use Rattle.exact_answers.specs.declared.platforms.Satisfiability.{Satisfiability}
use Rattle.exact_answers.specs.Targets.{SaysSatisfiability}
use Rattle.manifest_lints.specs.declared.deciding.Decided.{Decided}
use Rattle.manifest_lints.specs.Truths.{SaysNever, NeedsMoreFor, is_unknown}
use Rattle.manifest_lints.proofs.Verdicts.{as_ok, each_ok, can_hold}
use Rattle.manifest_lints.proofs.deciding.is_never.Goals as goal
use Rattle.manifest_lints.proofs.deciding.is_never.Goals.{in-No, in-Yes, in-Undecided}

pub returns-clause-says : goal.returns-clause-says
returns-clause-says c =
    let k = c.args.known.now in
    let p = condition_of c.args.platform.now in
    let says : Satisfiability → Type 0 = λ a.
    SaysSatisfiability a k (p ∷ []) c.args.budget (λ name s. IsTrueCondition name s p)
    (λ name s. IsTrueCondition name s p → ⊥) in
    elim c.match-branch-2.branch [
      | in-No w ↦ as_ok (λ d. SaysNever d k p) _ _ w.result-is (subst says w.in-No.is c.in_ok-can_hold_platform.ensures)
      | in-Yes w ↦
          as_ok (λ d. SaysNever d k p) _ _ w.result-is
          (can_hold k p w.in-Yes.field-0 (subst says w.in-Yes.is c.in_ok-can_hold_platform.ensures))
      | in-Undecided w ↦ as_ok (λ d. SaysNever d k p) _ _ w.result-is w.unless_shown.ensures
    ]

pub returns-clause-unknown : goal.returns-clause-unknown
returns-clause-unknown c =
    let k = c.args.known.now in
    let p = condition_of c.args.platform.now in
    let says : Satisfiability → Type 0 = λ a.
    SaysSatisfiability a k (p ∷ []) c.args.budget (λ name s. IsTrueCondition name s p)
    (λ name s. IsTrueCondition name s p → ⊥) in
    let N : Decided → Type 0 = λ d. IsTrue (is_unknown d) → NeedsMoreFor k p c.args.budget in
    elim c.match-branch-2.branch [
      | in-No w ↦ as_ok N _ _ w.result-is (λ h. absurd (true≢false (sym h)))
      | in-Yes w ↦ as_ok N _ _ w.result-is (λ h. absurd (true≢false (sym h)))
      | in-Undecided w ↦
          as_ok N _ _ w.result-is
          (each_ok N w.unless_shown.result
          (λ d h. subst says w.in-Undecided.is c.in_ok-can_hold_platform.ensures))
    ]
