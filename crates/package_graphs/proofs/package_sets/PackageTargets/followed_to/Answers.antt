use Rattle.std.proofs.Common.{◌≡◌, Bool, ◌||◌, Option, sym, ◌∙◌, ap}
use Rattle.known_targets.specs.Sets.{is_member}
use Rattle.known_targets.specs.declared.known.KnownTarget.{KnownTarget}
use Rattle.package_graphs.specs.Kinds.{is_followed}
use Rattle.package_graphs.specs.Packages.{is_macro}
use Rattle.package_graphs.specs.declared.sides.Side.{Side}
use Rattle.package_graphs.specs.declared.sides.Side.TheVariants.{Target, Host}
use Rattle.package_graphs.proofs.Followed.{leads_with, to_either, from_to}
use Rattle.package_graphs.proofs.package_sets.PackageTargets.followed_to.Goals as goal

pub returns : goal.returns
returns c k below =
    let sets = c.args.self.now in
    let query = c.args.query in
    let packages = query.packages.now in
    let d = c.args.dependency.now in
    let by : Option KnownTarget → Bool → Side → Bool =
    λ host is_macro on. leads_with sets host is_macro c.args.from d c.args.to k on in
    let host = c.new-traversal.result.host in
    let is_it = c.is_macro-is_macro.result in
    let e : is_member c.union.result k
    ≡ (by query.host (is_macro packages d.to) Target || by query.host (is_macro packages d.to) Host) =
    c.union.ensures k below
    ∙ ap (λ (b : Bool). b || is_member c.along_to.result k) (c.along_to-target.ensures k below)
    ∙ ap (λ (b : Bool). by host is_it Target || b) (c.along_to.ensures k below)
    ∙ ap (λ (m : Bool). by host m Target || by host m Host) c.is_macro-is_macro.ensures
    ∙ ap (λ (h : Option KnownTarget). by h (is_macro packages d.to) Target || by h (is_macro packages d.to) Host)
    c.new-traversal.ensures.host in
    let followed =
    ap (λ (root : Bool). is_followed query.kinds root d.kind) (sym c.is_root.ensures)
    ∙ sym c.follows.ensures ∙ c.if-not-follows.false in (
      λ h. to_either sets packages query.kinds query.host c.args.from d c.args.to k followed (sym e ∙ h),
      λ h. e ∙ from_to sets packages query.kinds query.host c.args.from d c.args.to k h,
    )
