-- What resolver 2 turns on or uses, resolver 1 does too.
use Rattle.std.proofs.Common.{◌≡◌, ◌<◌, ◌+◌, ℕ, zero, suc, Bool, true, false, not, ◌&&◌, cond, List, [], ◌∷◌, ◌++◌}
use Rattle.std.proofs.Common.{length}
use Rattle.std.proofs.Common.{Vec, Global, get_or, refl, sym, ◌∙◌, ap, subst, inl, inr, arith, Option, Some, None}
use Rattle.std.specs.Prelude.{Contains, flat_map, slice_get}
use Rattle.std.proofs.lemmas.Bool.{and_parts, and_from}
use Rattle.std.proofs.lemmas.List.Elements.{Contains-append_cases, Contains-append_left, Contains-append_right}
use Rattle.known_targets.specs.declared.known.KnownTarget.{KnownTarget}
use Rattle.package_graphs.proofs.Chosen.{contains_flat_map, contains_if, in_flat_map, in_if}
use Rattle.package_graphs.specs.Kinds.{is_followed}
use Rattle.package_graphs.specs.declared.packages.Kind.{Kind}
use Rattle.package_graphs.specs.declared.packages.Kind.TheVariants as kinds
use Rattle.package_graphs.specs.declared.packages.Kinds.{Kinds}
use Rattle.package_graphs.specs.declared.sides.Side.{Side}
use Rattle.package_graphs.specs.declared.sides.Side.TheVariants.{Target, Host}
use Rattle.cargo_features.specs.Deriving.{given, follows}
use Rattle.cargo_features.proofs.Following.{held_through}
use Rattle.cargo_features.specs.Claims.{holds_at}
use Rattle.cargo_features.specs.Destinations.{destination, is_counted, counts_kind, begins_on}
use Rattle.cargo_features.specs.Steps.{one, both, when, at_each, to_feature, required_claim, is_first_side, root_steps}
use Rattle.cargo_features.specs.Steps.{active_steps}
use Rattle.cargo_features.specs.Steps.{used_steps, dependency_steps, strong_at, weak_at, named_steps, member_steps}
use Rattle.cargo_features.specs.Steps.{feature_steps, all_features, steps_of, steps_on_both, all_steps, turns_on}
use Rattle.cargo_features.specs.Steps.{led_to}
use Rattle.cargo_features.specs.Steps.{led_where}
use Rattle.cargo_features.specs.Holding.{is_known, LeadsTo, Holds}
use Rattle.cargo_features.specs.Graphs.{resolver_1, resolver_2, joined}
use Rattle.cargo_features.specs.declared.build.BuildOptions.{BuildOptions}
use Rattle.cargo_features.specs.declared.claims.Claim.{Claim}
use Rattle.cargo_features.specs.declared.claims.Claim.TheVariants as claim
use Rattle.cargo_features.specs.declared.claims.StepTargets.{StepTargets}
use Rattle.cargo_features.specs.declared.claims.StepTargets.TheVariants.{Always}
use Rattle.cargo_features.specs.declared.claims.PackageOnSide.{PackageOnSide}
use Rattle.cargo_features.specs.declared.claims.Step.{Step}
use Rattle.cargo_features.specs.declared.packages.Dependency.{Dependency}
use Rattle.cargo_features.specs.declared.packages.FeatureValue.{FeatureValue}
use Rattle.cargo_features.specs.declared.packages.FeatureValue.TheVariants as listed
use Rattle.cargo_features.specs.declared.packages.Package.{Package}
use Rattle.cargo_features.proofs.Within.{in_each}

-- a step of an element is one of the list
pub of_each : {X : Type 0} (n : ℕ) (f : ℕ → X → List Step) (xs : List X) (i : ℕ) (x : X) (y : Step) → i < length xs
    → ((d : X) → get_or xs i d ≡ x) → Contains (f (n + i) x) y → Contains (at_each n f xs) y
of_each n f [] i x y below is h = absurd (omega (arith, below))
of_each {X} n f (z ∷ xs) zero x y below is h =
    let e : n + 0 ≡ n = omega arith in
    Contains-append_left (f n z) (at_each (n + 1) f xs) y
    (subst (λ (v : X). Contains (f n v) y) (sym (is z)) (subst (λ (m : ℕ). Contains (f m x) y) e h))
of_each {X} n f (z ∷ xs) (suc i) x y below is h =
    let e : n + suc i ≡ (n + 1) + i = omega arith in
    Contains-append_right (f n z) (at_each (n + 1) f xs) y
    (of_each (n + 1) f xs i x y (omega (arith, below)) is (subst (λ (m : ℕ). Contains (f m x) y) e h))

known_joined : (packages : List Package) (c : Claim) → is_known packages c ≡ true
    → is_known packages (joined c) ≡ true
known_joined packages claim.Requested h = h
known_joined packages (claim.Active p from) h = h
known_joined packages (claim.Used p from) h = h
known_joined packages (claim.Feature p from f) h = h
known_joined packages (claim.Dependency p from d) h = h

gate_joined : (b : Bool) (p i : ℕ) (from : Side) (c : Claim)
    → joined (cond b (claim.Dependency p from i) c) ≡ cond b (claim.Dependency p Target i) (joined c)
gate_joined true p i from c = refl
gate_joined false p i from c = refl

counts_more : (b is_root : Bool) (kind : Kind) (build other : BuildOptions) → build.with_dev ≡ b → other.with_dev ≡ true
    → counts_kind build is_root kind ≡ true → counts_kind other is_root kind ≡ true
counts_more b is_root kinds.Normal build other same all h = refl
counts_more b is_root kinds.Build build other same all h = refl
counts_more b is_root kinds.Dev build other same all h =
    let parts = and_parts build.with_dev is_root h in
    and_from other.with_dev is_root all parts.1

begins_more : (build other : BuildOptions) (s : Side) (unit : Package) → begins_on build s unit ≡ true
    → begins_on other Target unit ≡ true
begins_more build other Target unit h = h
begins_more build other Host unit h = (and_parts unit.is_root (build.by_side && unit.is_macro) h).0

module _ (followed : Kinds) (host : KnownTarget) (packages : List Package) (k : ℕ) where
  abbrev Two : BuildOptions
  Two = resolver_2 followed host

  abbrev One : BuildOptions
  One = resolver_1 followed host

  -- one of these steps does what the other does, sides joined
  record Matches (steps : List Step) (y : Step) : Type 0 where
    step : Step
    is : Contains steps step
    first : step.first ≡ joined y.first
    second : step.second ≡ joined y.second
    to : step.to ≡ joined y.to
    holds : holds_at host k y.condition ≡ true → holds_at host k step.condition ≡ true

  in_left : (xs ys : List Step) (y : Step) → Matches xs y → Matches (xs ++ ys) y
  in_left xs ys y m = record {
    step = m.step;
    is = Contains-append_left xs ys m.step m.is;
    first = m.first;
    second = m.second;
    to = m.to;
    holds = m.holds;
  }

  in_right : (xs ys : List Step) (y : Step) → Matches ys y → Matches (xs ++ ys) y
  in_right xs ys y m = record {
    step = m.step;
    is = Contains-append_right xs ys m.step m.is;
    first = m.first;
    second = m.second;
    to = m.to;
    holds = m.holds;
  }

  from_either : (xs ys : List Step) (y : Step) (R : Type 0) → (Contains xs y → R) → (Contains ys y → R)
      → Contains (xs ++ ys) y → R
  from_either xs ys y R f g is = elim (Contains-append_cases xs ys y is) as (λ _. R) [ inl a ↦ f a | inr b ↦ g b ]

  -- a step where it is one
  matched : (b c : Bool) (x z y : Step) → Contains (when b x) y → (b ≡ true → c ≡ true)
      → z.first ≡ joined x.first → z.second ≡ joined x.second → z.to ≡ joined x.to
      → (holds_at host k x.condition ≡ true → holds_at host k z.condition ≡ true)
      → Matches (when c z) y
  matched b c x z y is more first second to holds =
      let h = contains_if b x y is in
      subst (λ (s : Step). Matches (when c z) s) h.1 (record {
        step = z;
        is = in_if c z (more h.0);
        first = first;
        second = second;
        to = to;
        holds = holds;
      })

  matched_features : (b c : Bool) (first z : Claim) (on : PackageOnSide) (c1 c2 : StepTargets) (fs : List ℕ) (y : Step)
      → (b ≡ true → c ≡ true) → z ≡ joined first
      → (holds_at host k c1 ≡ true → holds_at host k c2 ≡ true)
      → Contains (flat_map (to_feature b first on c1) fs) y
      → Matches (flat_map (to_feature c z (record { index = on.index; side = Target }) c2) fs) y
  matched_features b c first z on c1 c2 fs y more same holds is =
      let from = contains_flat_map (to_feature b first on c1) fs y is in
      let f : ℕ = from.0 in
      let g = to_feature c z (record { index = on.index; side = Target }) c2 in
      let m = matched b c (one first (claim.Feature on.index on.side f) c1) (one z (claim.Feature on.index
      Target f) c2) y
      from.2 more same same refl holds in
      record {
        step = m.step;
        is = in_flat_map g fs f m.step from.1 m.is;
        first = m.first;
        second = m.second;
        to = m.to;
        holds = m.holds;
      }

  module _ (p : ℕ) (s : Side) (unit : Package) where
    abbrev At : PackageOnSide
    At = record { index = p; side = s }

    abbrev There : PackageOnSide
    There = record { index = p; side = Target }

    abbrev Here : Step → Type 0
    Here y = Matches (steps_on_both One packages p unit) y

    on_place : (t : Side) (y : Step) → Matches (steps_of One packages (record { index = p; side = t }) unit) y → Here y
    on_place Target y m =
        in_left (steps_of One packages (record { index = p; side = Target }) unit)
        (steps_of One packages (record { index = p; side = Host }) unit) y m
    on_place Host y m =
        in_right (steps_of One packages (record { index = p; side = Target }) unit)
        (steps_of One packages (record { index = p; side = Host }) unit) y m

    from_root : (t : Side) (y : Step) → Matches (root_steps One (record { index = p; side = t }) unit) y → Here y
    from_root t y m =
        let at : PackageOnSide = record { index = p; side = t } in
        on_place t y (in_left (root_steps One at unit ++ dependency_steps One packages at unit)
        (all_features One packages at unit) y
        (in_left (root_steps One at unit) (dependency_steps One packages at unit) y m))

    from_dependencies : (t : Side) (y : Step)
        → Matches (dependency_steps One packages (record { index = p; side = t }) unit) y → Here y
    from_dependencies t y m =
        let at : PackageOnSide = record { index = p; side = t } in
        on_place t y (in_left (root_steps One at unit ++ dependency_steps One packages at unit)
        (all_features One packages at unit) y
        (in_right (root_steps One at unit) (dependency_steps One packages at unit) y m))

    from_features : (y : Step) → Matches (all_features One packages There unit) y → Here y
    from_features y m =
        on_place Target y (in_right (root_steps One There unit ++ dependency_steps One packages There unit)
        (all_features One packages There unit) y m)

    counted_too : (d : Dependency) → is_counted Two unit d ≡ true → is_counted One unit d ≡ true
    counted_too d h = counts_more followed.dev unit.is_root d.kind Two One refl refl h

    root_matched : (y : Step) → Contains (root_steps Two At unit) y → Here y
    root_matched y is =
        let begins = begins_on Two s unit in
        let active = one claim.Requested (claim.Active p s) Always in
        let requested = flat_map (to_feature begins claim.Requested At Always) unit.requested.items in
        let used = one claim.Requested (claim.Used p s) Always in
        let more : begins ≡ true → begins_on One Target unit ≡ true = begins_more Two One s unit in
        let active_1 = when (begins_on One Target unit) (one claim.Requested (claim.Active p Target) Always) in
        let requested_1 = flat_map (to_feature (begins_on One Target unit) claim.Requested There Always)
        unit.requested.items in
        let used_1 = when (is_first_side Target unit) (one claim.Requested (claim.Used p Target) Always) in
        from_either (when begins active ++ requested) (when (is_first_side s unit) used) y (Here y)
        (from_either (when begins active) requested y (Here y)
        (λ h. from_root Target y (in_left (active_1 ++ requested_1) used_1 y (in_left active_1 requested_1 y
        (matched begins (begins_on One Target unit) active (one claim.Requested (claim.Active p Target) Always) y h more
        refl refl refl (λ x. x)))))
        (λ h. from_root Target y (in_left (active_1 ++ requested_1) used_1 y (in_right active_1 requested_1 y
        (matched_features begins (begins_on One Target unit) claim.Requested claim.Requested At Always Always
        unit.requested.items y
        more refl (λ x. x) h)))))
        (λ h. from_root s y (in_right
        (when (begins_on One s unit) (one claim.Requested (claim.Active p s) Always)
        ++ flat_map (to_feature (begins_on One s unit) claim.Requested At Always) unit.requested.items)
        (when (is_first_side s unit) used) y
        (matched (is_first_side s unit) (is_first_side s unit) used used y h (λ x. x) refl refl refl (λ x. x))))
        is

    active_matched : (i : ℕ) (d : Dependency) (y : Step) → Contains (active_steps Two packages At unit i d) y
        → Matches (active_steps One packages There unit i d) y
    active_matched i d y is =
        let from = required_claim At i d (claim.Active p s) in
        let from_1 = required_claim There i d (claim.Active p Target) in
        let same : from_1 ≡ joined from = sym (gate_joined d.is_optional p i s (claim.Active p s)) in
        let led = led_to Two packages At d in
        let led_if = led_where Two packages At d in
        let it = one from (claim.Active led.index led.side) led_if in
        let it_1 = one from_1 (claim.Active d.to Target) Always in
        let rest = flat_map (to_feature (is_counted Two unit d) from led led_if) d.features.items in
        let rest_1 = flat_map (to_feature (is_counted One unit d) from_1 (led_to One packages There d) Always)
        d.features.items in
        from_either (when (is_counted Two unit d) it) rest y (Matches (active_steps One packages There unit i d) y)
        (λ h. in_left (when (is_counted One unit d) it_1) rest_1 y
        (matched (is_counted Two unit d) (is_counted One unit d) it it_1 y h (counted_too d) same same refl
        (λ x. refl)))
        (λ h. in_right (when (is_counted One unit d) it_1) rest_1 y
        (matched_features (is_counted Two unit d) (is_counted One unit d) from from_1 led led_if Always
        d.features.items y
        (counted_too d) same (λ x. refl) h))
        is

    used_matched : (i : ℕ) (d : Dependency) (y : Step) → Contains (used_steps Two packages At unit i d) y
        → Matches (used_steps One packages At unit i d) y
    used_matched i d y is =
        let w = destination packages s d in
        let is_on = is_followed followed unit.is_root d.kind in
        let it = both (claim.Used p s) (required_claim At i d (claim.Used p s)) (claim.Used d.to w.side) w.condition in
        let it_1 = both (claim.Used p s) (required_claim There i d (claim.Used p s)) (claim.Used d.to w.side)
        w.condition in
        matched is_on is_on it it_1 y is (λ x. x) refl (sym (gate_joined d.is_optional p i s (claim.Used p s))) refl
        (λ x. x)

    dependencies_matched : (y : Step) → Contains (dependency_steps Two packages At unit) y → Here y
    dependencies_matched y h =
        let f = λ (i : ℕ) (d : Dependency).
        active_steps Two packages At unit i d ++ used_steps Two packages At unit i d in
        let g = λ (t : Side) (i : ℕ) (d : Dependency).
        active_steps One packages (record { index = p; side = t }) unit i d
        ++ used_steps One packages (record { index = p; side = t }) unit i d in
        let r = in_each 0 f unit.dependencies.items y h in
        let i = 0 + r.0 in
        let d : Dependency = r.1 in
        let lift : (t : Side) → Matches (g t i d) y → Here y =
        λ t m. from_dependencies t y (record {
          step = m.step;
          is = of_each 0 (g t) unit.dependencies.items r.0 d m.step r.2 r.3 m.is;
          first = m.first;
          second = m.second;
          to = m.to;
          holds = m.holds;
        }) in
        from_either (active_steps Two packages At unit i d) (used_steps Two packages At unit i d) y (Here y)
        (λ x. lift Target (in_left (active_steps One packages There unit i d) (used_steps One packages There unit i d) y
        (active_matched i d y x)))
        (λ x. lift s (in_right (active_steps One packages At unit i d) (used_steps One packages At unit i d) y
        (used_matched i d y x)))
        r.4

    named_matched : (b c : Bool) (f : ℕ) (c1 : StepTargets) (named : Option ℕ) (y : Step) → (b ≡ true → c ≡ true)
        → Contains (named_steps b At (claim.Feature p s f) c1 named) y
        → Matches (named_steps c There (claim.Feature p Target f) Always named) y
    named_matched b c f c1 None y more (j, below, is) = absurd (omega (arith, below))
    named_matched b c f c1 (Some n) y more is =
        matched b c (one (claim.Feature p s f) (claim.Feature p s n) c1)
        (one (claim.Feature p Target f) (claim.Feature p Target n) Always) y is more refl refl refl (λ x. refl)

    strong_matched : (f i g : ℕ) (o : Option Dependency) (y : Step)
        → Contains (strong_at Two packages At unit (claim.Feature p s f) i g o) y
        → Matches (strong_at One packages There unit (claim.Feature p Target f) i g o) y
    strong_matched f i g None y (j, below, is) = absurd (omega (arith, below))
    strong_matched f i g (Some d) y is =
        let from = claim.Feature p s f in
        let from_1 = claim.Feature p Target f in
        let led = led_to Two packages At d in
        let led_if = led_where Two packages At d in
        let turns : turns_on Two unit d ≡ true → turns_on One unit d ≡ true =
        λ h. let parts = and_parts (is_counted Two unit d) d.is_optional h in
        and_from (is_counted One unit d) d.is_optional (counted_too d parts.0) parts.1 in
        let a = to_feature (is_counted Two unit d) from led led_if g in
        let a_1 = to_feature (is_counted One unit d) from_1 (led_to One packages There d) Always g in
        let b = when (turns_on Two unit d) (one from (claim.Dependency p s i) led_if) in
        let b_1 = when (turns_on One unit d) (one from_1 (claim.Dependency p Target i) Always) in
        let n_1 = named_steps (turns_on One unit d) There from_1 Always d.named in
        from_either (a ++ b) (named_steps (turns_on Two unit d) At from led_if d.named) y
        (Matches ((a_1 ++ b_1) ++ n_1) y)
        (from_either a b y (Matches ((a_1 ++ b_1) ++ n_1) y)
        (λ h. in_left (a_1 ++ b_1) n_1 y (in_left a_1 b_1 y
        (matched (is_counted Two unit d) (is_counted One unit d) (one from (claim.Feature led.index led.side g) led_if)
        (one from_1 (claim.Feature d.to Target g) Always) y h (counted_too d) refl refl refl (λ x. refl))))
        (λ h. in_left (a_1 ++ b_1) n_1 y (in_right a_1 b_1 y
        (matched (turns_on Two unit d) (turns_on One unit d) (one from (claim.Dependency p s i) led_if)
        (one from_1 (claim.Dependency p Target i) Always) y h turns refl refl refl (λ x. refl)))))
        (λ h. in_right (a_1 ++ b_1) n_1 y
        (named_matched (turns_on Two unit d) (turns_on One unit d) f led_if d.named y turns h))
        is

    weak_matched : (f i g : ℕ) (o : Option Dependency) (y : Step)
        → Contains (weak_at Two packages At unit (claim.Feature p s f) i g o) y
        → Matches (weak_at One packages There unit (claim.Feature p Target f) i g o) y
    weak_matched f i g None y (j, below, is) = absurd (omega (arith, below))
    weak_matched f i g (Some d) y is =
        let from = claim.Feature p s f in
        let from_1 = claim.Feature p Target f in
        let led = led_to Two packages At d in
        let led_if = led_where Two packages At d in
        matched (is_counted Two unit d) (is_counted One unit d)
        (both from (required_claim At i d from) (claim.Feature led.index led.side g) led_if)
        (both from_1 (required_claim There i d from_1) (claim.Feature d.to Target g) Always) y is (counted_too d) refl
        (sym (gate_joined d.is_optional p i s from)) refl (λ x. refl)

    member_matched : (f : ℕ) (m : FeatureValue) (y : Step)
        → Contains (member_steps Two packages At unit (claim.Feature p s f) m) y
        → Matches (member_steps One packages There unit (claim.Feature p Target f) m) y
    member_matched f (listed.Feature n) y is =
        matched true true (one (claim.Feature p s f) (claim.Feature p s n) Always)
        (one (claim.Feature p Target f) (claim.Feature p Target n) Always) y is (λ x. x) refl refl refl (λ x. x)
    member_matched f (listed.Dependency i) y is =
        matched true true (one (claim.Feature p s f) (claim.Dependency p s i) Always)
        (one (claim.Feature p Target f) (claim.Dependency p Target i) Always) y is (λ x. x) refl refl refl (λ x. x)
    member_matched f (listed.Strong i g) y is = strong_matched f i g (slice_get unit.dependencies.items i) y is
    member_matched f (listed.Weak i g) y is = weak_matched f i g (slice_get unit.dependencies.items i) y is

    features_matched : (y : Step) → Contains (all_features Two packages At unit) y → Here y
    features_matched y h =
        let f = λ (i : ℕ) (members : Vec FeatureValue Global). feature_steps Two packages At unit i members.items in
        let g = λ (i : ℕ) (members : Vec FeatureValue Global). feature_steps One packages There unit i members.items in
        let r = in_each 0 f unit.features.items y h in
        let i = 0 + r.0 in
        let from = contains_flat_map (member_steps Two packages At unit (claim.Feature p s i)) r.1.items y r.4 in
        let m = member_matched i from.0 y from.2 in
        let listed_1 = member_steps One packages There unit (claim.Feature p Target i) in
        from_features y (record {
          step = m.step;
          is = of_each 0 g unit.features.items r.0 r.1 m.step r.2 r.3
              (in_flat_map listed_1 r.1.items from.0 m.step from.1 m.is);
          first = m.first;
          second = m.second;
          to = m.to;
          holds = m.holds;
        })

    place_matched : (y : Step) → Contains (steps_of Two packages At unit) y → Here y
    place_matched y =
        from_either (root_steps Two At unit ++ dependency_steps Two packages At unit)
        (all_features Two packages At unit) y (Here y)
        (from_either (root_steps Two At unit) (dependency_steps Two packages At unit) y (Here y)
        (root_matched y) (dependencies_matched y))
        (features_matched y)

  all_matched : (y : Step) → Contains (all_steps Two packages) y → Matches (all_steps One packages) y
  all_matched y h =
      let f = λ (p : ℕ) (unit : Package). steps_on_both Two packages p unit in
      let g = λ (p : ℕ) (unit : Package). steps_on_both One packages p unit in
      let r = in_each 0 f packages y h in
      let p = 0 + r.0 in
      let unit : Package = r.1 in
      let m = from_either (steps_of Two packages (record { index = p; side = Target }) unit)
      (steps_of Two packages (record { index = p; side = Host }) unit) y
      (Matches (steps_on_both One packages p unit) y)
      (place_matched p Target unit y) (place_matched p Host unit y) r.4 in
      record {
        step = m.step;
        is = of_each 0 g packages r.0 unit m.step r.2 r.3 m.is;
        first = m.first;
        second = m.second;
        to = m.to;
        holds = m.holds;
      }

  pub holds_joined : (c : Claim) → Holds Two packages k c → Holds One packages k (joined c)
  holds_joined =
      held_through (λ c. c ≡ claim.Requested) (λ a b c. LeadsTo Two packages k a b c)
      (λ c. Holds One packages k (joined c))
      (λ m is. given (joined m) (ap (λ (x : Claim). joined x) is))
      (λ a b m one_holds two_holds leads.
      let y = all_matched leads.step leads.is in
      follows (joined a) (joined b) (joined m) one_holds two_holds (record {
        step = y.step;
        is = y.is;
        first = y.first ∙ ap (λ (x : Claim). joined x) leads.first;
        second = y.second ∙ ap (λ (x : Claim). joined x) leads.second;
        to = y.to ∙ ap (λ (x : Claim). joined x) leads.to;
        known = known_joined packages m leads.known;
        holds = y.holds leads.holds;
      }))
