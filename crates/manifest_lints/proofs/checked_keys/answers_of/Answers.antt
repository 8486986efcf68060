use Rattle.std.proofs.Common.{◌≡◌, ◌∙◌, sym, ap, length, inl, inr, ◌||◌, rules}
use Rattle.std.proofs.lemmas.List.{length-map}
use Rattle.cargo_platform.specs.Trees.{condition_of}
use Rattle.manifests.specs.Declarations.{declarations_of}
use Rattle.manifest_lints.specs.Earlier.{is_undecided}
use Rattle.predicate_classes.specs.Classes.{classified_of, classified_in}
use Rattle.manifest_lints_findings.specs.Known.{classified_of_spelled}
use Rattle.manifest_lints.proofs.CheckedKeys.{beside_others, one_or}
use Rattle.manifest_lints.proofs.MoreEquivalents.{open_beside}
use Rattle.manifest_lints.proofs.Missed.{decided_then}
use Rattle.manifest_lints.proofs.checked_keys.answers_of.Goals as goal

pub returns-clause-alone : goal.returns-clause-alone
returns-clause-alone c = λ known is.
    beside_others c.args.context.now.known.now (declarations_of c.args.context.now.declared.now)
    (condition_of c.args.condition.now) c.in_ok-answers.answers c.in_ok-answers-2.field-0 c.stays_open-is_open.result
    c.either.result c.either.ensures (c.in_ok-answers.ensures.alone known is)

pub returns-clause-left_open : goal.returns-clause-left_open
returns-clause-left_open c = λ known is es members much holds.
    let k = c.args.context.now.known.now in
    let ds = declarations_of c.args.context.now.declared.now in
    let p = condition_of c.args.condition.now in
    let key = c.args.key.now in
    let long : length key.predicates.items ≡ length (classified_in ds p) =
    sym (length-map key.predicates.items classified_of) ∙ ap length
    (known.predicates ∙ ap (classified_of_spelled ds) is) in
    elim (one_or _ _ (sym c.either.ensures ∙ holds)) [
      | inl alone ↦ c.in_ok-answers.ensures.left_open known is es alone
      | inr beside ↦
          open_beside k es c.args.before.now p members ds key.read.now.text.now c.budget_beside-budget.result _
          c.args.context.now.is_too_much _ (length key.predicates.items) c.budget_beside-budget.ensures much long
          c.in_ok-answers-2.ensures.undecided
          (sym c.stays_open-is_open.ensures ∙ beside)
    ]

pub returns-clause-decided : goal.returns-clause-decided
returns-clause-decided c = λ closed told.
    let a = c.in_ok-answers.answers in
    let undecided = is_undecided c.in_ok-answers-2.field-0 in
    let same : c.if-answers.decides ≡ (a.never || a.always) = search rules in
    sym same ∙ decided_then a.is_open c.stays_open-is_open.result undecided c.if-answers.decides c.either.result
    c.either.ensures c.stays_open-is_open.ensures closed told
