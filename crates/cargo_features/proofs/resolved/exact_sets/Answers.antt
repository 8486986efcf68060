use Rattle.std.proofs.Common.{◌≡◌, ◌<◌, ℕ, ◌+◌, true, false, List, length, set, length-set, sym, ◌∙◌, ap, subst, inl}
use Rattle.std.proofs.Common.{inr, arith}
use Rattle.std.proofs.lemmas.Bool.{cases_eq, false≢true}
use Rattle.known_targets.specs.declared.table.TheConstants.{COUNT}
use Rattle.known_targets.specs.declared.target_set.TargetSet.{TargetSet}
use Rattle.package_graphs.specs.Graphs.{is_in}
use Rattle.package_graphs.proofs.SetLists.{is_in_none, is_in_same, is_in_other}
use Rattle.cargo_features.specs.declared.rules.Rule.{Rule}
use Rattle.cargo_features.specs.Steps.{all_steps}
use Rattle.cargo_features.specs.Inside.Numbered.{count_of, number, AreNumbered}
use Rattle.cargo_features.proofs.Numbering.{number_fits}
use Rattle.cargo_features.proofs.Exact.{holds_of_number, number_of_holds}
use Rattle.cargo_features.proofs.resolved.exact_sets.Goals as goal

pub returns : goal.returns
returns c =
    let ps = c.args.packages.now in
    let build = c.args.build in
    let nothing = c.in_ok-given.given.items in
    let sets = set nothing 0 c.all.result in
    let rules : List Rule = c.deref.result.now in
    let count : c.in_ok-given.given.len ≡ count_of ps =
    c.in_ok-given.ensures.len ∙ c.count.ensures ∙ c.in_ok-numbers.ensures.count in
    let first_in : 0 < length nothing = omega (arith, count, c.in_ok-given.given.ok.0) in
    let many : length sets ≡ count_of ps =
    omega (arith, length-set nothing 0 c.all.result, count, c.in_ok-given.given.ok.0) in
    let empty : (n k : ℕ) → is_in nothing n k ≡ false =
    λ n k.
    ap (λ (xs : List TargetSet). is_in xs n k) (c.in_ok-given.ensures.items_if_clones_equal (λ y same. same))
    ∙ is_in_none c.count.result c.none.result n k (c.none.ensures k) in
    let first : (k n : ℕ) → is_in sets n k ≡ true → n ≡ 0 =
    λ k n h.
    elim (cases_eq n 0) as (λ _. n ≡ 0) [
      | inl same ↦ same
      | inr other ↦ absurd (false≢true (sym (is_in_other nothing 0 c.all.result n k other ∙ empty n k) ∙ h))
    ] in
    let requested : (k : ℕ) → k < COUNT → is_in sets 0 k ≡ true =
    λ k inside. is_in_same nothing 0 c.all.result k first_in ∙ c.all.ensures k inside in
    let numbered : AreNumbered ps build.host (all_steps build ps) rules =
    subst (λ (rs : List Rule). AreNumbered ps build.host (all_steps build ps) rs) (sym c.deref.ensures.value)
    c.in_ok-rules.ensures in
    record {
      numbers = c.in_ok-numbers.ensures;
      exact = λ it k known inside.
          let fits = number_fits ps it known in
          let e = c.in_ok-sets.ensures.exact (number ps it) k (omega (arith, fits, count)) inside in (
            λ h. holds_of_number build ps sets rules k inside many (first k) (requested k inside) numbered it known
                (e.0 h),
            λ h. e.1 (number_of_holds build ps sets rules k inside many (first k) (requested k inside) numbered it h),
          );
    }
