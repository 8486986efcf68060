use Rattle.std.proofs.Common.{◌≡◌, Bool, ◌||◌, Some, slice_get, sym, ◌∙◌, ap}
use Rattle.known_targets.specs.Sets.{is_member}
use Rattle.package_graphs.specs.declared.sides.Side.{Side}
use Rattle.package_graphs.specs.declared.sides.Side.TheVariants.{Target, Host}
use Rattle.cargo_features.proofs.Using.{got, uses_from, to_using, from_using}
use Rattle.cargo_features.proofs.resolved.Resolved.dependency_targets_to.Goals as goal

pub returns : goal.returns
returns c numbers k below =
    let r = c.args.self.now in
    let p = c.args.index in
    let unit = c.in-Some.unit.now in
    let d = c.in-Some-get.dependency.now in
    let first = c.in-Some.ensures.lookup.3 in
    let there : slice_get r.packages.items p ≡ Some unit =
    got c.deref.result.now r.packages.items p unit c.deref.ensures.value first.0 (first.1 unit) in
    let second = c.in-Some-get.ensures.lookup.3 in
    let declared : slice_get unit.dependencies.items c.args.place ≡ Some d =
    got c.deref-2.result.now unit.dependencies.items c.args.place d c.deref-2.ensures.value second.0 (second.1 d) in
    let by : Side → Bool =
    λ from. uses_from r p c.args.place c.args.to k unit there d declared from in
    let e : is_member c.union.result k ≡ (by Target || by Host) =
    c.union.ensures k below
    ∙ ap (λ (b : Bool). b || is_member c.dependency_targets_along.result k)
    (c.dependency_targets_along-target.ensures numbers k below)
    ∙ ap (λ (b : Bool). by Target || b) (c.dependency_targets_along.ensures numbers k below) in (
      λ h.
          to_using r p c.args.place c.args.to k unit there d declared
          (sym c.follows.ensures ∙ c.if-not-follows.false) (sym e ∙ h),
      λ h.
          e ∙ from_using r p c.args.place c.args.to k unit there d declared h,
    )
