use Rattle.std.proofs.Common.{ℕ, ◌≡◌, ◌<◌, ◌+◌, ◌*◌, ◌≤◌, ◌⊎◌, List, length, get_or, vec_len, true, Bool, refl, sym}
use Rattle.std.proofs.Common.{◌∙◌, ap, subst}
use Rattle.std.proofs.Common.{inl, inr, arith}
use Rattle.std.specs.Prelude.{All, Contains}
use Rattle.std.proofs.lemmas.Bool.{or_left, and_from, and_parts}
use Rattle.known_targets.specs.Sets.{is_member}
use Rattle.known_targets.specs.declared.table.TheConstants.{COUNT}
use Rattle.known_targets.specs.declared.target_set.TargetSet.{TargetSet}
use Rattle.package_graphs.specs.Graphs.{is_in}
use Rattle.package_graphs.proofs.SetLists.{is_in_read}
use Rattle.cargo_features.specs.Deriving.{follows}
use Rattle.cargo_features.specs.Derivations.{IsDerived}
use Rattle.cargo_features.specs.Inside.Working.{IsAsBefore, IsApplied, AreSound}
use Rattle.cargo_features.specs.declared.rules.Rule.{Rule}
use Rattle.cargo_features.proofs.Working.{all_kept, one_more, applied_here, sound_more}
use Rattle.cargo_features.proofs.applying_rules.apply.Goals as goal

pub places-preserved : goal.places-preserved
places-preserved c =
    let old = c.places.invariant in
    let rules = c.args.rules.now in
    let places = c.args.places.now in
    let done = c.args.done.now.items in
    let before = c.places.sets.items in
    let now = c.add.new.sets.items in
    let i = c.places.place-index in
    let rule : Rule = c.in-Some.rule.now in
    let found = c.in-Some.ensures.lookup in
    let more = is_member c.intersection.result in
    let same : length now ≡ length before =
    omega (arith, c.add.ensures.count, c.add.new.sets.ok.0, c.places.sets.ok.0) in
    let wide : length done ≡ length before =
    omega (arith, c.requires, old.count, c.args.done.now.ok.0, c.places.sets.ok.0) in
    let first_in : rule.first < length done =
    omega (arith, c.if-rule-count.false, c.len-count.ensures, c.places.sets.ok.0, wide) in
    let second_in : rule.second < length done =
    omega (arith, c.if-rule-count-2.false, c.len-count.ensures, c.places.sets.ok.0, wide) in
    let to_in : rule.to < vec_len c.args.sets.now =
    omega (arith, c.if-rule-count-3.false, c.len-count.ensures, old.count) in
    let first : (k : ℕ) → is_in done rule.first k ≡ is_member c.index.result.now k =
    λ k. is_in_read done rule.first c.index.result.now k first_in c.index.ensures in
    let second : (k : ℕ) → is_in done rule.second k ≡ is_member c.index-in-places.result.now k =
    λ k. is_in_read done rule.second c.index-in-places.result.now k second_in c.index-in-places.ensures in
    let grown : (n k : ℕ) → k < COUNT → is_in before n k ≡ true → is_in now n k ≡ true =
    λ n k known here. c.in_ok-add.ensures.sets n k known ∙ or_left _ _ here in
    record {
      count = c.add.ensures.count ∙ old.count;
      grown = λ n k known here. grown n k known (old.grown n k known here);
      known = λ all. c.in_ok-add.ensures.known (vec_len c.args.sets.now) to_in (old.known all);
      kept = λ n is. c.in_ok-add.ensures.kept n (old.kept n is);
      waits = λ n.
          elim (c.in_ok-add.ensures.waits n)
          as (λ _. Contains c.add.new.waiting.items n ⊎ IsAsBefore c.args.sets.now.items now n) [
            | inl is ↦ inl is
            | inr as_was ↦
                elim (old.waits n)
                as (λ _. Contains c.add.new.waiting.items n ⊎ IsAsBefore c.args.sets.now.items now n) [
                  | inl is ↦ inl (c.in_ok-add.ensures.kept n is)
                  | inr as_before ↦ inr (λ k below. as_was k below ∙ as_before k below)
                ]
          ];
      applied =
          one_more rules done now places i (all_kept rules done before now places i grown same old.applied)
          (λ d fits.
          let is : get_or rules (get_or places i 0) d ≡ rule = sym (found.3.1 d) in
          subst (λ (r : Rule). IsApplied done now r) (sym is)
          (applied_here done before now rule more c.in_ok-add.ensures.sets
          (λ k known a b holds.
          c.intersection.ensures k known
          ∙ and_from _ _ (c.intersection-both.ensures k known
          ∙ and_from _ _ (sym (first k) ∙ a) (sym (second k) ∙ b)) holds)));
      sound = λ sets many d s.
          sound_more sets rules before now rule.to more c.in_ok-add.ensures.sets
          (λ k known m.
          let parts = and_parts _ _ (sym (c.intersection.ensures k known) ∙ m) in
          let both = and_parts _ _ (sym (c.intersection-both.ensures k known) ∙ parts.0) in
          let is : Contains rules rule = (get_or places i 0, found.3.0, sym (found.3.1 rule)) in
          follows rule.first rule.second rule.to (d rule.first k known (first k ∙ both.0))
          (d rule.second k known (second k ∙ both.1)) (record {
            rule = rule;
            is = is;
            first = refl;
            second = refl;
            to = refl;
            inside = omega (arith, to_in, many);
            holds = parts.1;
          }))
          (old.sound sets many d s);
      work = omega (arith, c.in_ok-add.ensures.work, old.work);
    }
