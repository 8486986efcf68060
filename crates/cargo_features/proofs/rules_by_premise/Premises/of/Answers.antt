use Rattle.std.proofs.Common.{ℕ, ◌<◌, List, length, get_or, ◌∙◌, subst, below_more}
use Rattle.std.proofs.lemmas.List.{get_or_default}
use Rattle.cargo_features.specs.Inside.Listing.{place_lists, IsListed, IsPlaced}
use Rattle.cargo_features.specs.declared.rules.Rule.{Rule}
use Rattle.cargo_features.proofs.Listing.{no_rule}
use Rattle.cargo_features.proofs.rules_by_premise.Premises.of.Goals as goal

pub rules-preserved : goal.rules-preserved
rules-preserved c =
    let rules = c.args.rules.now in
    let i = c.rules.i in
    let now = place_lists c.add-in-rules.new.self in
    let one : (d : Rule) → IsListed (place_lists c.add.new.self) (get_or rules i d).first i =
    λ d. subst (λ (r : Rule). IsListed (place_lists c.add.new.self) r.first i)
    (get_or_default rules i no_rule d c.rules-test.true) c.in_ok-add.ensures.listed in
    let two : (d : Rule) → IsListed now (get_or rules i d).second i =
    λ d. subst (λ (r : Rule). IsListed now r.second i) (get_or_default rules i no_rule d c.rules-test.true)
    c.in_ok-add-2.ensures.listed in
    record {
      count = c.add-in-rules.ensures.count ∙ c.add.ensures.count ∙ c.rules.invariant.count;
      all =
          below_more (λ j. (d : Rule) → IsPlaced now j (get_or rules j d)) i
          (λ j below d.
          let both = c.rules.invariant.all j below d in
          let kept = λ (n : ℕ) (is : IsListed (place_lists c.rules.premises) n j).
          c.in_ok-add-2.ensures.kept n j (c.in_ok-add.ensures.kept n j is) in
          (kept (get_or rules j d).first both.0, kept (get_or rules j d).second both.1))
          (λ d. (c.in_ok-add-2.ensures.kept (get_or rules i d).first i (one d), two d));
    }
