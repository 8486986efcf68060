-- Where more features are requested, what held before holds.
use Rattle.std.proofs.Common.{◌≡◌, ◌<◌, ◌+◌, ℕ, zero, suc, Bool, true, false, ◌&&◌, ◌||◌, cond, List, [], ◌∷◌}
use Rattle.std.proofs.Common.{◌++◌, length, map}
use Rattle.std.proofs.Common.{Vec, Global, get_or, refl, sym, ◌∙◌, ap, subst, inl, inr, arith, Option, Some, None}
use Rattle.std.specs.Prelude.{Contains, flat_map, slice_get, nat_lt}
use Rattle.std.specs.List.{slice_index_or}
use Rattle.std.proofs.lemmas.List.{get_or_default}
use Rattle.std.proofs.lemmas.List.Elements.{Contains-append_cases, Contains-append_left, Contains-append_right}
use Rattle.package_graphs.proofs.Chosen.{contains_flat_map, in_flat_map}
use Rattle.package_graphs.specs.Kinds.{is_followed}
use Rattle.package_graphs.specs.Packages.{is_of_host, side}
use Rattle.package_graphs.specs.declared.sides.Side.{Side}
use Rattle.package_graphs.specs.declared.sides.Side.TheVariants.{Target, Host}
use Rattle.cargo_features.specs.Deriving.{given, follows}
use Rattle.cargo_features.proofs.Following.{held_through}
use Rattle.cargo_features.specs.Requests.{asking, AsksMore, AskMore}
use Rattle.cargo_features.specs.Destinations.{condition, destination, is_macro, feature_side, is_counted, begins_on}
use Rattle.cargo_features.specs.Steps.{one, both, when, at_each, to_feature, required_claim, is_first_side, root_steps}
use Rattle.cargo_features.specs.Steps.{active_steps, used_steps, dependency_steps, strong_at, weak_at, named_steps}
use Rattle.cargo_features.specs.Steps.{member_steps, feature_steps, all_features, steps_of, steps_on_both, all_steps}
use Rattle.cargo_features.specs.Steps.{turns_on}
use Rattle.cargo_features.specs.Holding.{is_known, feature_count, dependency_count, LeadsTo, Holds}
use Rattle.cargo_features.specs.declared.build.BuildOptions.{BuildOptions}
use Rattle.cargo_features.specs.declared.build.Destination.{Destination}
use Rattle.cargo_features.specs.declared.claims.Claim.{Claim}
use Rattle.cargo_features.specs.declared.claims.Claim.TheVariants as claim
use Rattle.cargo_features.specs.declared.claims.StepTargets.{StepTargets}
use Rattle.cargo_features.specs.declared.claims.StepTargets.TheVariants.{Always}
use Rattle.cargo_features.specs.declared.claims.PackageOnSide.{PackageOnSide}
use Rattle.cargo_features.specs.declared.claims.Step.{Step}
use Rattle.cargo_features.specs.declared.packages.Dependency.{Dependency}
use Rattle.cargo_features.specs.declared.packages.FeatureValue.{FeatureValue}
use Rattle.cargo_features.specs.declared.packages.FeatureValue.TheVariants as listed
use Rattle.cargo_features.specs.declared.packages.Package.{Package}
use Rattle.cargo_features.proofs.Within.{in_each}
use Rattle.cargo_features.proofs.Joined.{of_each}

-- what is told of the packages, but for what is requested of them, is the same
mapped : {X : Type 0} (f : Package → X) → ((u : Package) (requested : Vec ℕ Global) → f (asking u requested) ≡ f u)
    → (xs ys : List Package) → AskMore xs ys → map f xs ≡ map f ys
mapped f same [] [] m = refl
mapped f same [] (y ∷ ys) m = absurd (omega (arith, m.count))
mapped f same (x ∷ xs) [] m = absurd (omega (arith, m.count))
mapped {X} f same (x ∷ xs) (y ∷ ys) m =
    let first : AsksMore x y = m.each 0 (omega arith) x in
    let is : f y ≡ f x = ap (λ (u : Package). f u) first.same ∙ same x y.requested in
    let rest : AskMore xs ys = record {
      count = omega (arith, m.count);
      each = λ p below d. m.each (suc p) (omega (arith, below)) d;
    } in
    ap (λ (z : X). z ∷ map f xs) (sym is) ∙ ap (λ (zs : List X). f y ∷ zs) (mapped f same xs ys rest)

in_both : (xs ys zs ws : List Step) (y : Step) → (Contains xs y → Contains zs y) → (Contains ys y → Contains ws y)
    → Contains (xs ++ ys) y → Contains (zs ++ ws) y
in_both xs ys zs ws y f g is =
    elim (Contains-append_cases xs ys y is) as (λ _. Contains (zs ++ ws) y) [
      | inl a ↦ Contains-append_left zs ws y (f a)
      | inr b ↦ Contains-append_right zs ws y (g b)
    ]

module _ (build : BuildOptions) (packages others : List Package) (more : AskMore packages others) where
  macro_same : (p : ℕ) → is_macro packages p ≡ is_macro others p
  macro_same p =
      ap (λ (ms : List Bool). slice_index_or ms p false)
      (mapped (λ (u : Package). u.is_macro) (λ u requested. refl) packages others more)

  destination_same : (s : Side) (d : Dependency) → destination packages s d ≡ destination others s d
  destination_same s d =
      ap {B = Destination} (λ (m : Bool). record {
        side = side (is_of_host s d.kind || m);
        condition = condition (is_of_host s d.kind) d.holds;
      }) (macro_same d.to)

  known_same : (c : Claim) → is_known packages c ≡ true → is_known others c ≡ true
  known_same claim.Requested h = h
  known_same (claim.Active p from) h = subst (λ (n : ℕ). nat_lt p n ≡ true) (sym more.count) h
  known_same (claim.Used p from) h = subst (λ (n : ℕ). nat_lt p n ≡ true) (sym more.count) h
  known_same (claim.Feature p from f) h =
      subst (λ (ns : List ℕ). nat_lt f (slice_index_or ns p 0) ≡ true)
      (mapped (λ (u : Package). length u.features.items) (λ u requested. refl) packages others more) h
  known_same (claim.Dependency p from d) h =
      subst (λ (ns : List ℕ). nat_lt d (slice_index_or ns p 0) ≡ true)
      (mapped (λ (u : Package). length u.dependencies.items) (λ u requested. refl) packages others more) h

  module _ (at : PackageOnSide) (unit : Package) where
    -- the steps by the destination of a dependency
    abbrev active_by : ℕ → Dependency → Destination → List Step
    active_by i d w =
        let c = cond build.by_target w.condition Always in
        let on : PackageOnSide = record { index = d.to; side = feature_side build w.side } in
        let from = required_claim at i d (claim.Active at.index at.side) in
        when (is_counted build unit d) (one from (claim.Active on.index on.side) c)
        ++ flat_map (to_feature (is_counted build unit d) from on c) d.features.items

    active_same : (i : ℕ) (d : Dependency)
        → active_steps build packages at unit i d ≡ active_steps build others at unit i d
    active_same i d = ap (λ (w : Destination). active_by i d w) (destination_same at.side d)

    abbrev used_by : ℕ → Dependency → Destination → List Step
    used_by i d w =
        when (is_followed build.kinds unit.is_root d.kind)
        (both (claim.Used at.index at.side)
        (required_claim (record { index = at.index; side = feature_side build at.side }) i d
        (claim.Used at.index at.side))
        (claim.Used d.to w.side) w.condition)

    used_same : (i : ℕ) (d : Dependency)
        → used_steps build packages at unit i d ≡ used_steps build others at unit i d
    used_same i d = ap (λ (w : Destination). used_by i d w) (destination_same at.side d)

    abbrev strong_by : Claim → ℕ → ℕ → Dependency → Destination → List Step
    strong_by from i g d w =
        let c = cond build.by_target w.condition Always in
        let on : PackageOnSide = record { index = d.to; side = feature_side build w.side } in
        to_feature (is_counted build unit d) from on c g
        ++ when (turns_on build unit d) (one from (claim.Dependency at.index at.side i) c)
        ++ named_steps (turns_on build unit d) at from c d.named

    strong_same : (from : Claim) (i g : ℕ) (o : Option Dependency)
        → strong_at build packages at unit from i g o ≡ strong_at build others at unit from i g o
    strong_same from i g None = refl
    strong_same from i g (Some d) = ap (λ (w : Destination). strong_by from i g d w) (destination_same at.side d)

    abbrev weak_by : Claim → ℕ → ℕ → Dependency → Destination → List Step
    weak_by from i g d w =
        when (is_counted build unit d)
        (both from (required_claim at i d from) (claim.Feature d.to (feature_side build w.side) g)
        (cond build.by_target w.condition Always))

    weak_same : (from : Claim) (i g : ℕ) (o : Option Dependency)
        → weak_at build packages at unit from i g o ≡ weak_at build others at unit from i g o
    weak_same from i g None = refl
    weak_same from i g (Some d) = ap (λ (w : Destination). weak_by from i g d w) (destination_same at.side d)

    member_same : (from : Claim) (m : FeatureValue)
        → member_steps build packages at unit from m ≡ member_steps build others at unit from m
    member_same from (listed.Feature f) = refl
    member_same from (listed.Dependency i) = refl
    member_same from (listed.Strong i g) = strong_same from i g (slice_get unit.dependencies.items i)
    member_same from (listed.Weak i g) = weak_same from i g (slice_get unit.dependencies.items i)

    module _ (requested : Vec ℕ Global) (has : (f : ℕ) → Contains unit.requested.items f
        → Contains requested.items f) where
      abbrev there : Package
      there = asking unit requested

      begins_same : (s : Side) → begins_on build s unit ≡ begins_on build s there
      begins_same Target = refl
      begins_same Host = refl

      first_same : (s : Side) → is_first_side s unit ≡ is_first_side s there
      first_same Target = refl
      first_same Host = refl

      abbrev root_by : Bool → Bool → List ℕ → List Step
      root_by begins is_first fs =
          when begins (one claim.Requested (claim.Active at.index at.side) Always)
          ++ flat_map (to_feature begins claim.Requested at Always) fs
          ++ when is_first (one claim.Requested (claim.Used at.index at.side) Always)

      root_more : (y : Step) → Contains (root_steps build at unit) y → Contains (root_steps build at there) y
      root_more y h =
          let begins = begins_on build at.side unit in
          let active = when begins (one claim.Requested (claim.Active at.index at.side) Always) in
          let feature = to_feature begins claim.Requested at Always in
          let used = when (is_first_side at.side unit) (one claim.Requested (claim.Used at.index at.side) Always) in
          subst (λ (b : Bool). Contains (root_by b (is_first_side at.side there) requested.items) y)
          (begins_same at.side)
          (subst (λ (b : Bool). Contains (root_by begins b requested.items) y) (first_same at.side)
          (in_both (active ++ flat_map feature unit.requested.items) used
          (active ++ flat_map feature requested.items) used y
          (in_both active (flat_map feature unit.requested.items) active (flat_map feature requested.items) y (λ x. x)
          (λ x. let from = contains_flat_map feature unit.requested.items y x in
          in_flat_map feature requested.items from.0 y (has from.0 from.1) from.2))
          (λ x. x) h))

      dependency_more : (y : Step) → Contains (dependency_steps build packages at unit) y
          → Contains (dependency_steps build others at there) y
      dependency_more y h =
          let f = λ (i : ℕ) (d : Dependency).
          active_steps build packages at unit i d ++ used_steps build packages at unit i d in
          let g = λ (i : ℕ) (d : Dependency).
          active_steps build others at unit i d ++ used_steps build others at unit i d in
          let r = in_each 0 f unit.dependencies.items y h in
          let i = 0 + r.0 in
          let d : Dependency = r.1 in
          of_each 0 g unit.dependencies.items r.0 d y r.2 r.3
          (in_both (active_steps build packages at unit i d) (used_steps build packages at unit i d)
          (active_steps build others at unit i d) (used_steps build others at unit i d) y
          (λ x. subst (λ (ss : List Step). Contains ss y) (active_same i d) x)
          (λ x. subst (λ (ss : List Step). Contains ss y) (used_same i d) x) r.4)

      feature_more : (y : Step) → Contains (all_features build packages at unit) y
          → Contains (all_features build others at there) y
      feature_more y h =
          let f = λ (i : ℕ) (members : Vec FeatureValue Global). feature_steps build packages at unit i members.items in
          let g = λ (i : ℕ) (members : Vec FeatureValue Global). feature_steps build others at unit i members.items in
          let r = in_each 0 f unit.features.items y h in
          let on = claim.Feature at.index at.side (0 + r.0) in
          let from = contains_flat_map (member_steps build packages at unit on) r.1.items y r.4 in
          of_each 0 g unit.features.items r.0 r.1 y r.2 r.3
          (in_flat_map (member_steps build others at unit on) r.1.items from.0 y from.1
          (subst (λ (ss : List Step). Contains ss y) (member_same on from.0) from.2))

      place_more : (y : Step) → Contains (steps_of build packages at unit) y
          → Contains (steps_of build others at there) y
      place_more y =
          in_both (root_steps build at unit ++ dependency_steps build packages at unit)
          (all_features build packages at unit)
          (root_steps build at there ++ dependency_steps build others at there) (all_features build others at there) y
          (in_both (root_steps build at unit) (dependency_steps build packages at unit)
          (root_steps build at there) (dependency_steps build others at there) y (root_more y) (dependency_more y))
          (feature_more y)

  unit_more : (p : ℕ) (unit other : Package) → AsksMore unit other → (y : Step)
      → Contains (steps_on_both build packages p unit) y → Contains (steps_on_both build others p other) y
  unit_more p unit other m y h =
      let there = asking unit other.requested in
      let on : PackageOnSide = record { index = p; side = Target } in
      let off : PackageOnSide = record { index = p; side = Host } in
      subst (λ (u : Package). Contains (steps_on_both build others p u) y) (sym m.same)
      (in_both (steps_of build packages on unit) (steps_of build packages off unit)
      (steps_of build others on there) (steps_of build others off there) y
      (place_more on unit other.requested m.requested y) (place_more off unit other.requested m.requested y) h)

  all_more : (y : Step) → Contains (all_steps build packages) y → Contains (all_steps build others) y
  all_more y h =
      let f = λ (p : ℕ) (unit : Package). steps_on_both build packages p unit in
      let g = λ (p : ℕ) (unit : Package). steps_on_both build others p unit in
      let r = in_each 0 f packages y h in
      let unit : Package = r.1 in
      let other = get_or others r.0 unit in
      let below : r.0 < length others = omega (arith, r.2, more.count) in
      let m : AsksMore unit other =
      subst (λ (u : Package). AsksMore u other) (r.3 unit) (more.each r.0 r.2 unit) in
      of_each 0 g others r.0 other y below (λ d. get_or_default others r.0 d unit below)
      (unit_more (0 + r.0) unit other m y r.4)

  pub holds_more : (k : ℕ) (c : Claim) → Holds build packages k c → Holds build others k c
  holds_more k =
      held_through (λ c. c ≡ claim.Requested) (λ a b c. LeadsTo build packages k a b c) (λ c. Holds build others k c)
      (λ m is. given m is)
      (λ a b m first_holds second_holds leads.
      follows a b m first_holds second_holds (record {
        step = leads.step;
        is = all_more leads.step leads.is;
        first = leads.first;
        second = leads.second;
        to = leads.to;
        known = known_same m leads.known;
        holds = leads.holds;
      }))
