use Rattle.std.proofs.Common.{rules, ◌≡◌, ◌∙◌, ◌<◌, sym, ap, subst, length, List, ℕ, true, false, inl, inr}
use Rattle.std.specs.Borrow.{Bor}
use Rattle.std.proofs.lemmas.List.{length-map}
use Rattle.cargo_platform.specs.Trees.{condition_of}
use Rattle.partial_facts.specs.Partly.{names_of}
use Rattle.predicate_classes.specs.declared.key_predicates.KeyPredicate.{KeyPredicate}
use Rattle.manifests.specs.Declarations.{declarations_of}
use Rattle.predicate_classes.specs.Classes.{open_in, classified_by, classified_of, classified_in}
use Rattle.manifest_lints_findings.specs.Known.{classified_of_spelled}
use Rattle.manifest_lints.specs.declared.at_targets.TheConstants.{MAX_OPEN_NAMES}
use Rattle.manifest_lints.specs.Truths.{NeedsMoreFor, budget_of}
use Rattle.manifest_lints.specs.AtTargets.{SettlesOn}
use Rattle.manifest_lints.specs.Reports.{too_deep, many_open, few_splits}
use Rattle.manifest_lints.proofs.CheckedKeys.{left_false, right_or, one_or}
use Rattle.manifest_lints.proofs.checked_keys.answers_alone.Goals as goal

-- as many names and keys are open as stand in a slice of them
as_many : (ts : List (Bor (List ℕ))) (ns : List (List ℕ)) → names_of ts ≡ ns → length ns ≡ length ts
as_many ts ns is = sym (ap length is) ∙ length-map ts (λ t. t.now)

counted : (n : ℕ) (fs : List KeyPredicate) → n ≡ length fs → n ≡ length (classified_by fs)
counted n fs is = is ∙ sym (length-map fs classified_of)

pub returns-clause-alone : goal.returns-clause-alone
returns-clause-alone c = λ known is.
    let ds = declarations_of c.args.context.now.declared.now in
    let p = condition_of c.args.condition.now in
    let asked = c.in_ok-never.ensures in
    let places = c.in_ok-nowhere.ensures in
    let open_keys = c.deref-2.result.now in
    let sorted = ap (λ fs. open_in (classified_by fs)) c.deref.ensures.value
    ∙ ap open_in (known.predicates ∙ ap (classified_of_spelled ds) is) in
    let names : names_of open_keys ≡ open_in (classified_in ds p) =
    ap names_of c.deref-2.ensures.value ∙ c.in_ok-open.ensures ∙ sorted in
    let names_too : names_of c.deref-3.result.now ≡ open_in (classified_in ds p) =
    ap names_of c.deref-3.ensures.value ∙ c.in_ok-open.ensures ∙ sorted in
    let facts : c.len.result ≡ length (classified_in ds p) =
    counted c.len.result c.args.key.now.predicates.items (search rules) ∙ ap length
    (known.predicates ∙ ap (classified_of_spelled ds) is) in
    record {
      never = (asked.never, λ no settled. asked.can_hold no (left_false _ _ (sym c.either.ensures ∙ settled)));
      always = (asked.always, λ no settled. asked.can_fail no (left_false _ _ (sym c.either.ensures ∙ settled)));
      nowhere =
          subst (λ n. SettlesOn true n (open_in (classified_in ds p)) p c.in_ok-nowhere.nowhere) facts
          (subst (λ ns. SettlesOn true c.len.result ns p c.in_ok-nowhere.nowhere) names places.nowhere);
      everywhere =
          subst (λ n. SettlesOn false n (open_in (classified_in ds p)) p c.in_ok-nowhere.everywhere) facts
          (subst (λ ns. SettlesOn false c.len.result ns p c.in_ok-nowhere.everywhere) names places.everywhere);
      many = λ is. c.either.ensures
          ∙ right_or _ _ (c.are_many.ensures.1
          (subst (λ n. MAX_OPEN_NAMES < n) (as_many c.deref-3.result.now (open_in (classified_in ds p)) names_too) is));
    }

pub returns-clause-left_open : goal.returns-clause-left_open
returns-clause-left_open c = λ known is es holds.
    let k = c.args.context.now.known.now in
    let ds = declarations_of c.args.context.now.declared.now in
    let p = condition_of c.args.condition.now in
    let asked_is = known.predicates ∙ ap (classified_of_spelled ds) is in
    let names : names_of c.deref-3.result.now ≡ open_in (classified_in ds p) =
    ap names_of c.deref-3.ensures.value ∙ c.in_ok-open.ensures
    ∙ ap (λ fs. open_in (classified_by fs)) c.deref.ensures.value ∙ ap open_in asked_is in
    let long : length c.args.key.now.predicates.items ≡ length (classified_in ds p) =
    sym (length-map c.args.key.now.predicates.items classified_of) ∙ ap length asked_is in
    let counted : c.len-2.result ≡ length c.args.key.now.predicates.items = search rules in
    elim (one_or _ _ (sym c.either.ensures ∙ holds)) [
      | inl unknown ↦
          elim (c.in_ok-never.ensures.unknown unknown) [
            | inl not_asked ↦ too_deep (c.may_search-may_search.ensures not_asked)
            | inr more ↦
                few_splits (subst (λ b. NeedsMoreFor k p b) (c.budget_for-budget.ensures ∙ ap budget_of (counted ∙
                long)) more)
          ]
      | inr many ↦
          many_open (subst (λ n. MAX_OPEN_NAMES < n)
          (sym (as_many c.deref-3.result.now (open_in (classified_in ds p)) names)) (c.are_many.ensures.0 many))
    ]
