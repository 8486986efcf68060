-- What a build uses is there in the graph of the packages.
use Rattle.std.proofs.Common.{◌≡◌, ◌<◌, ◌+◌, ℕ, zero, suc, Bool, true, false, not, ◌&&◌, ◌||◌, cond, List, [], ◌∷◌}
use Rattle.std.proofs.Common.{◌++◌, length}
use Rattle.std.proofs.Common.{Vec, Global, get_or, refl, sym, ◌∙◌, ap, subst, inl, inr, arith, Option, Some, None}
use Rattle.std.specs.Prelude.{Contains, flat_map, slice_get}
use Rattle.std.proofs.lemmas.Bool.{and_parts, false≢true}
use Rattle.std.proofs.lemmas.List.Elements.{Contains-append_cases}
use Rattle.known_targets.specs.Sets.{place, is_member}
use Rattle.known_targets.specs.declared.known.KnownTarget.{KnownTarget}
use Rattle.known_targets.specs.declared.target_set.TargetSet.{TargetSet}
use Rattle.package_graphs.proofs.Chosen.{contains_flat_map, contains_if}
use Rattle.package_graphs.specs.Reaching.{starts, goes_on}
use Rattle.package_graphs.specs.Kinds.{is_followed}
use Rattle.package_graphs.specs.Packages as graphs
use Rattle.package_graphs.specs.declared.packages.Kind.{Kind}
use Rattle.package_graphs.specs.declared.packages.Package as units
use Rattle.package_graphs.specs.declared.sides.Side.{Side}
use Rattle.package_graphs.specs.declared.sides.Side.TheVariants.{Target, Host}
use Rattle.cargo_features.proofs.Following.{held_through}
use Rattle.cargo_features.specs.Claims.{holds_at}
use Rattle.cargo_features.specs.Destinations.{condition, destination, is_macro, is_counted}
use Rattle.cargo_features.specs.Steps.{one, both, when, at_each, to_feature, required_claim, is_first_side, root_steps}
use Rattle.cargo_features.specs.Steps.{active_steps}
use Rattle.cargo_features.specs.Steps.{used_steps, dependency_steps, strong_at, weak_at, named_steps, member_steps}
use Rattle.cargo_features.specs.Steps.{feature_steps, all_features, steps_of, steps_on_both, all_steps, turns_on}
use Rattle.cargo_features.specs.Steps.{led_to}
use Rattle.cargo_features.specs.Steps.{led_where}
use Rattle.cargo_features.specs.Holding.{LeadsTo, Holds}
use Rattle.cargo_features.specs.Graphs.{IsUnit, IsGraphOf, HasEdge}
use Rattle.cargo_features.specs.declared.build.BuildOptions.{BuildOptions}
use Rattle.cargo_features.specs.declared.claims.Claim.{Claim}
use Rattle.cargo_features.specs.declared.claims.Claim.TheVariants as claim
use Rattle.cargo_features.specs.declared.claims.StepTargets.{StepTargets}
use Rattle.cargo_features.specs.declared.claims.PackageOnSide.{PackageOnSide}
use Rattle.cargo_features.specs.declared.claims.Step.{Step}
use Rattle.cargo_features.specs.declared.packages.Dependency.{Dependency}
use Rattle.cargo_features.specs.declared.packages.FeatureValue.{FeatureValue}
use Rattle.cargo_features.specs.declared.packages.FeatureValue.TheVariants as listed
use Rattle.cargo_features.specs.declared.packages.Package.{Package}

-- the element whose steps one is of
pub in_each : {X : Type 0} (n : ℕ) (f : ℕ → X → List Step) (xs : List X) (y : Step) → Contains (at_each n f xs) y
    → (i : ℕ) × (x : X) × (i < length xs) × ((d : X) → get_or xs i d ≡ x) × Contains (f (n + i) x) y
in_each n f [] y (j, below, is) = absurd (omega (arith, below))
in_each {X} n f (x ∷ xs) y h =
    elim (Contains-append_cases (f n x) (at_each (n + 1) f xs) y h)
    as (λ _. (i : ℕ) × (z : X) × (i < length (x ∷ xs)) × ((d : X) → get_or (x ∷ xs) i d ≡ z)
    × Contains (f (n + i) z) y) [
      | inl a ↦
          let e : n ≡ n + 0 = omega arith in
          (zero, x, omega arith, λ d. refl, subst (λ (m : ℕ). Contains (f m x) y) e a)
      | inr b ↦
          let r = in_each (n + 1) f xs y b in
          let e : (n + 1) + r.0 ≡ n + suc r.0 = omega arith in
          (suc r.0, r.1, omega (arith, r.2), r.3, subst (λ (m : ℕ). Contains (f m r.1) y) e r.4)
    ]

on_target : (b : Bool) → not b ≡ true → Target ≡ graphs.side b
on_target true h = absurd (false≢true h)
on_target false h = refl

-- where a condition holds
where_requested : (host : KnownTarget) (k : ℕ) (b : Bool) (set : TargetSet)
    → holds_at host k (condition b set) ≡ is_member set (cond b (place host) k)
where_requested host k true set = refl
where_requested host k false set = refl

first_is : (s : Side) (unit : Package) → is_first_side s unit ≡ true
    → (unit.is_root ≡ true) × (s ≡ graphs.side unit.is_macro)
first_is Target unit h =
    let parts = and_parts unit.is_root (not unit.is_macro) h in
    (parts.0, on_target unit.is_macro parts.1)
first_is Host unit h =
    let parts = and_parts unit.is_root unit.is_macro h in
    (parts.0, ap (λ (b : Bool). graphs.side b) (sym parts.1))

module _ (build : BuildOptions) (packages : List Package) (graph : List units.Package) (k : ℕ)
    (over : IsGraphOf packages graph) where
  -- what is claimed of a package that is used
  abbrev Is : Claim → Type 0
  Is claim.Requested = Unit {0}
  Is (claim.Active p from) = Unit {0}
  Is (claim.Used p from) = graphs.IsThereOn graph build.kinds (Some build.host) k (p, from)
  Is (claim.Feature p from f) = Unit {0}
  Is (claim.Dependency p from d) = Unit {0}

  abbrev Keeps : Step → Type 0
  Keeps step = holds_at build.host k step.condition ≡ true → Is step.first → Is step.second → Is step.to

  of_when : (b : Bool) (x y : Step) → (b ≡ true → Keeps x) → Contains (when b x) y → Keeps y
  of_when b x y f is =
      let h = contains_if b x y is in
      subst (λ (s : Step). Keeps s) h.1 (f h.0)

  of_either : (xs ys : List Step) (y : Step) → (Contains xs y → Keeps y) → (Contains ys y → Keeps y)
      → Contains (xs ++ ys) y → Keeps y
  of_either xs ys y f g is = elim (Contains-append_cases xs ys y is) as (λ _. Keeps y) [ inl a ↦ f a | inr b ↦ g b ]

  of_feature : (b : Bool) (first : Claim) (on : PackageOnSide) (c : StepTargets) (f : ℕ) (y : Step)
      → Contains (to_feature b first on c f) y → Keeps y
  of_feature b first on c f y =
      of_when b (one first (claim.Feature on.index on.side f) c) y (λ _ h a b. tt)

  of_features : (b : Bool) (first : Claim) (on : PackageOnSide) (c : StepTargets) (fs : List ℕ) (y : Step)
      → Contains (flat_map (to_feature b first on c) fs) y → Keeps y
  of_features b first on c fs y is =
      let from = contains_flat_map (to_feature b first on c) fs y is in
      of_feature b first on c from.0 y from.2

  of_root : (at : PackageOnSide) (unit : Package) → IsUnit graph at.index unit → (y : Step)
      → Contains (root_steps build at unit) y → Keeps y
  of_root at unit is y =
      of_either _ _ y
      (of_either _ _ y (of_when _ _ y (λ _ h a b. tt)) (of_features _ claim.Requested at _ unit.requested.items y))
      (of_when (is_first_side at.side unit) _ y (λ first h a b.
      let f = first_is at.side unit first in
      starts (at.index, at.side) (record {
        root = is.root ∙ f.0;
        on = f.1 ∙ ap (λ (m : Bool). graphs.side m) (sym is.macro);
      })))

  of_used : (at : PackageOnSide) (unit : Package) → IsUnit graph at.index unit → (i : ℕ) (d : Dependency)
      → HasEdge graph at.index d → (y : Step) → Contains (used_steps build packages at unit i d) y → Keeps y
  of_used at unit is i d has y =
      of_when (is_followed build.kinds unit.is_root d.kind) _ y (λ followed h here b.
      let root = ap (λ (r : Bool). is_followed build.kinds r has.edge.kind) is.root in
      let kind = ap (λ (x : Kind). is_followed build.kinds unit.is_root x) has.kind in
      let requested = ap (λ (x : Kind). graphs.is_of_host at.side x) has.kind in
      goes_on (at.index, at.side) (d.to, (destination packages at.side d).side) here (record {
        depends = record {
          dependency = has.edge;
          begins = has.begins;
          ends = has.to;
          followed = root ∙ kind ∙ followed;
        };
        holds =
            ap (λ (s : TargetSet). is_member s
            (cond (graphs.is_of_host at.side has.edge.kind) (place build.host) k)) has.holds
            ∙ ap (λ (x : Bool). is_member d.holds (cond x (place build.host) k)) requested
            ∙ sym (where_requested build.host k (graphs.is_of_host at.side d.kind) d.holds)
            ∙ h;
        on =
            ap (λ (x : Bool). graphs.side (x || is_macro packages d.to)) (sym requested)
            ∙ ap (λ (x : Bool). graphs.side (graphs.is_of_host at.side has.edge.kind || x)) (sym (over.macros d.to));
      }))

  of_active : (at : PackageOnSide) (unit : Package) (i : ℕ) (d : Dependency) (y : Step)
      → Contains (active_steps build packages at unit i d) y → Keeps y
  of_active at unit i d y =
      of_either _ _ y (of_when _ _ y (λ _ h a b. tt)) (of_features _ _ _ _ d.features.items y)

  of_dependencies : (at : PackageOnSide) (unit : Package) → IsUnit graph at.index unit → (y : Step)
      → Contains (dependency_steps build packages at unit) y → Keeps y
  of_dependencies at unit is y h =
      let f = λ (i : ℕ) (d : Dependency).
      active_steps build packages at unit i d ++ used_steps build packages at unit i d in
      let r = in_each 0 f unit.dependencies.items y h in
      let d : Dependency = r.1 in
      let has : HasEdge graph at.index d =
      subst (λ (x : Dependency). HasEdge graph at.index x) (r.3 d) (is.edges r.0 r.2 d) in
      of_either (active_steps build packages at unit (0 + r.0) d) (used_steps build packages at unit (0 + r.0) d) y
      (of_active at unit (0 + r.0) d y) (of_used at unit is (0 + r.0) d has y) r.4

  of_named : (b : Bool) (at : PackageOnSide) (from : Claim) (c : StepTargets) (named : Option ℕ) (y : Step)
      → Contains (named_steps b at from c named) y → Keeps y
  of_named b at from c None y (j, below, is) = absurd (omega (arith, below))
  of_named b at from c (Some f) y h = of_feature b from at c f y h

  of_strong : (at : PackageOnSide) (unit : Package) (from : Claim) (i g : ℕ) (o : Option Dependency) (y : Step)
      → Contains (strong_at build packages at unit from i g o) y → Keeps y
  of_strong at unit from i g None y (j, below, is) = absurd (omega (arith, below))
  of_strong at unit from i g (Some d) y h =
      let led = led_to build packages at d in
      let where_led = led_where build packages at d in
      let counted = is_counted build unit d in
      let on = turns_on build unit d in
      let theirs = to_feature counted from led where_led g in
      let turned = one from (claim.Dependency at.index at.side i) where_led in
      of_either (theirs ++ when on turned) (named_steps on at from where_led d.named) y
      (of_either theirs (when on turned) y (of_feature counted from led where_led g y)
      (of_when on turned y (λ _ h a b. tt)))
      (of_named on at from where_led d.named y) h

  of_weak : (at : PackageOnSide) (unit : Package) (from : Claim) (i g : ℕ) (o : Option Dependency) (y : Step)
      → Contains (weak_at build packages at unit from i g o) y → Keeps y
  of_weak at unit from i g None y (j, below, is) = absurd (omega (arith, below))
  of_weak at unit from i g (Some d) y h = of_when _ _ y (λ _ h a b. tt) h

  of_member : (at : PackageOnSide) (unit : Package) (from : Claim) (m : FeatureValue) (y : Step)
      → Contains (member_steps build packages at unit from m) y → Keeps y
  of_member at unit from (listed.Feature f) y h = of_when true _ y (λ _ h a b. tt) h
  of_member at unit from (listed.Dependency i) y h = of_when true _ y (λ _ h a b. tt) h
  of_member at unit from (listed.Strong i g) y h =
      of_strong at unit from i g (slice_get unit.dependencies.items i) y h
  of_member at unit from (listed.Weak i g) y h =
      of_weak at unit from i g (slice_get unit.dependencies.items i) y h

  of_listed : (at : PackageOnSide) (unit : Package) (f : ℕ) (members : List FeatureValue) (y : Step)
      → Contains (feature_steps build packages at unit f members) y → Keeps y
  of_listed at unit f members y h =
      let from = claim.Feature at.index at.side f in
      let r = contains_flat_map (member_steps build packages at unit from) members y h in
      of_member at unit from r.0 y r.2

  of_all_features : (at : PackageOnSide) (unit : Package) (y : Step)
      → Contains (all_features build packages at unit) y → Keeps y
  of_all_features at unit y h =
      let f = λ (i : ℕ) (members : Vec FeatureValue Global). feature_steps build packages at unit i members.items in
      let r = in_each 0 f unit.features.items y h in
      of_listed at unit (0 + r.0) r.1.items y r.4

  of_place : (at : PackageOnSide) (unit : Package) → IsUnit graph at.index unit → (y : Step)
      → Contains (steps_of build packages at unit) y → Keeps y
  of_place at unit is y =
      of_either _ _ y
      (of_either (root_steps build at unit) (dependency_steps build packages at unit) y
      (of_root at unit is y) (of_dependencies at unit is y))
      (of_all_features at unit y)

  of_all : (y : Step) → Contains (all_steps build packages) y → Keeps y
  of_all y h =
      let f = λ (p : ℕ) (unit : Package). steps_on_both build packages p unit in
      let r = in_each 0 f packages y h in
      let p : ℕ = r.0 in
      let unit : Package = r.1 in
      let is : IsUnit graph p unit = subst (λ (u : Package). IsUnit graph p u) (r.3 unit) (over.each p r.2 unit) in
      let e : 0 + p ≡ p = omega arith in
      let here : Contains (f p unit) y = subst (λ (n : ℕ). Contains (f n unit) y) e r.4 in
      of_either (steps_of build packages (record { index = p; side = Target }) unit)
      (steps_of build packages (record { index = p; side = Host }) unit) y
      (of_place (record { index = p; side = Target }) unit is y)
      (of_place (record { index = p; side = Host }) unit is y) here

  pub within : (c : Claim) → Holds build packages k c → Is c
  within c =
      held_through (λ c. c ≡ claim.Requested) (λ a b c. LeadsTo build packages k a b c) Is
      (λ m is. subst (λ (x : Claim). Is x) (sym is) tt)
      (λ a b m one two leads.
      subst (λ (x : Claim). Is x) leads.to
      (of_all leads.step leads.is leads.holds
      (subst (λ (x : Claim). Is x) (sym leads.first) one) (subst (λ (x : Claim). Is x) (sym leads.second) two))) c
