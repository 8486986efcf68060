-- The rules lead to the number of a claim exactly where steps lead to the claim.
use Rattle.std.proofs.Common.{◌≡◌, ◌<◌, ◌≤◌, ◌↔◌, ℕ, zero, suc, Bool, true, false, List, [], length, get_or, map}
use Rattle.std.proofs.Common.{refl, sym, ◌∙◌}
use Rattle.std.proofs.Common.{ap, subst, inl, inr, arith}
use Rattle.std.specs.Prelude.{Contains, IsTrue}
use Rattle.std.proofs.lemmas.List.{get_or_default}
use Rattle.known_targets.specs.Sets.{is_member}
use Rattle.known_targets.specs.declared.target_set.TargetSet.{TargetSet}
use Rattle.known_targets.specs.declared.table.TheConstants.{COUNT}
use Rattle.package_graphs.specs.Graphs.{is_in}
use Rattle.cargo_features.specs.Deriving.{Follows, given, follows}
use Rattle.cargo_features.specs.Derivations.{Applies, IsDerived}
use Rattle.cargo_features.proofs.Following.{held_through}
use Rattle.cargo_features.specs.declared.rules.Rule.{Rule}
use Rattle.cargo_features.specs.Claims.{holds_at}
use Rattle.cargo_features.specs.Steps.{all_steps}
use Rattle.cargo_features.specs.Holding.{is_known, LeadsTo, Holds}
use Rattle.cargo_features.specs.Inside.Numbered.{count_of, number, IsNumbered, AreNumbered}
use Rattle.cargo_features.specs.declared.build.BuildOptions.{BuildOptions}
use Rattle.cargo_features.specs.declared.claims.Claim.{Claim}
use Rattle.cargo_features.specs.declared.claims.Claim.TheVariants as claim
use Rattle.cargo_features.specs.declared.claims.StepTargets.TheVariants.{Always}
use Rattle.cargo_features.specs.declared.claims.Step.{Step}
use Rattle.cargo_features.specs.declared.packages.Package.{Package}
use Rattle.cargo_features.proofs.Numbering.{number_fits, known_below, same_claim}

-- the default where nothing was read
abbrev pub no_step : Step
no_step = record { first = claim.Requested; second = claim.Requested; to = claim.Requested; condition = Always }

abbrev no_rule : Rule
no_rule = record { first = 0; second = 0; to = 0; holds = record { words = [] } }

module _ (build : BuildOptions) (packages : List Package) (sets : List TargetSet) (rules : List Rule) (k : ℕ)
    (inside : k < COUNT) (many : length sets ≡ count_of packages)
    (first : (n : ℕ) → is_in sets n k ≡ true → n ≡ 0) (requested : is_in sets 0 k ≡ true)
    (numbered : AreNumbered packages build.host (all_steps build packages) rules) where
  -- the number is that of a claim that holds
  abbrev Meant : ℕ → Type 0
  Meant r = (c : Claim) × (is_known packages c ≡ true) × (r ≡ number packages c) × Holds build packages k c

  meant_first : (r : ℕ) → IsTrue (is_in sets r k) → Meant r
  meant_first r is = (claim.Requested, refl, first r is, given claim.Requested refl)

  meant_on : (a b r : ℕ) → Meant a → Meant b → Applies (length sets) rules k a b r → Meant r
  meant_on a b r (x, x_known, x_is, x_holds) (y, y_known, y_is, y_holds) applies =
      let j = applies.is.0 in
      let below : j < length rules = applies.is.1 in
      let rule = applies.rule in
      let at : j < length (all_steps build packages) = omega (arith, below, numbered.count) in
      let step : Step = get_or (all_steps build packages) j no_step in
      let n : IsNumbered packages build.host step rule =
      subst (λ (r : Rule). IsNumbered packages build.host step r) applies.is.2
      (numbered.each j at no_step rule) in
      let one : x ≡ step.first =
      same_claim packages x step.first x_known (sym x_is ∙ sym applies.first ∙ n.first) in
      let two : y ≡ step.second =
      same_claim packages y step.second y_known (sym y_is ∙ sym applies.second ∙ n.second) in
      let to : r ≡ number packages step.to = sym applies.to ∙ n.to in
      let known : is_known packages step.to ≡ true =
      known_below packages step.to (omega (arith, applies.inside, many, to)) in (
        step.to,
        known,
        to,
        follows x y step.to x_holds y_holds (record {
          step = step;
          is = (j, at, get_or_default (all_steps build packages) j step no_step at);
          first = sym one;
          second = sym two;
          to = refl;
          known = known;
          holds = sym (n.holds k inside) ∙ applies.holds;
        }),
      )

  pub holds_of_number : (c : Claim) → is_known packages c ≡ true → IsDerived sets rules k (number packages c)
      → Holds build packages k c
  holds_of_number c known here =
      let meant = held_through (λ n. IsTrue (is_in sets n k)) (λ a b n. Applies (length sets) rules k a b n) Meant
      meant_first meant_on (number packages c) here in
      let is : c ≡ meant.0 = same_claim packages c meant.0 known meant.2 in
      subst (λ (x : Claim). Holds build packages k x) (sym is) meant.3

  abbrev Derived : Claim → Type 0
  Derived c = (is_known packages c ≡ true) × IsDerived sets rules k (number packages c)

  derived_first : (c : Claim) → c ≡ claim.Requested → Derived c
  derived_first c is =
      subst (λ (x : Claim). Derived x) (sym is) (refl, given 0 requested)

  derived_on : (a b c : Claim) → Derived a → Derived b → LeadsTo build packages k a b c → Derived c
  derived_on a b c one two leads =
      let j = leads.is.0 in
      let below : j < length (all_steps build packages) = leads.is.1 in
      let at : j < length rules = omega (arith, below, numbered.count) in
      let rule : Rule = get_or rules j no_rule in
      let n : IsNumbered packages build.host leads.step rule =
      subst (λ (s : Step). IsNumbered packages build.host s rule) leads.is.2
      (numbered.each j below leads.step no_rule) in
      let fits = number_fits packages c leads.known in (
        leads.known,
        follows (number packages a) (number packages b) (number packages c) one.1 two.1 (record {
          rule = rule;
          is = (j, at, get_or_default rules j rule no_rule at);
          first = n.first ∙ ap (λ (x : Claim). number packages x) leads.first;
          second = n.second ∙ ap (λ (x : Claim). number packages x) leads.second;
          to = n.to ∙ ap (λ (x : Claim). number packages x) leads.to;
          inside = omega (arith, fits, many);
          holds = n.holds k inside ∙ leads.holds;
        }),
      )

  pub number_of_holds : (c : Claim) → Holds build packages k c → IsDerived sets rules k (number packages c)
  number_of_holds c here =
      (held_through (λ c. c ≡ claim.Requested) (λ a b c. LeadsTo build packages k a b c) Derived
      derived_first derived_on c here).1
