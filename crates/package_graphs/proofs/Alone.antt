-- Without a host, the sides only divide the packages that the targets lead to; and where nothing is for the host.
use Rattle.std.proofs.Common.{◌≡◌, ℕ, Bool, List, refl, sym, ◌∙◌, ap, subst, Some, None}
use Rattle.std.specs.Prelude.{Contains, IsTrue}
use Rattle.known_targets.specs.Sets.{is_member}
use Rattle.known_targets.specs.declared.known.KnownTarget.{KnownTarget}
use Rattle.package_graphs.specs.Reaching.{starts, goes_on}
use Rattle.package_graphs.specs.Packages.{is_root, is_macro, dependencies, LeadsTo, IsThere, Sided, IsForTarget}
use Rattle.package_graphs.specs.Packages.{StartsOn, LeadsOn}
use Rattle.package_graphs.specs.Packages.{IsThereOn, IsPlain, evaluated_at, side_after, side}
use Rattle.package_graphs.specs.declared.packages.Kind.{Kind}
use Rattle.package_graphs.specs.declared.packages.Kind.TheVariants.{Normal}
use Rattle.package_graphs.specs.declared.packages.Kinds.{Kinds}
use Rattle.package_graphs.specs.declared.packages.Dependency.{Dependency}
use Rattle.package_graphs.specs.declared.packages.Package.{Package}
use Rattle.package_graphs.specs.declared.sides.Side.{Side}
use Rattle.package_graphs.specs.declared.sides.Side.TheVariants.{Target}
use Rattle.package_graphs.proofs.Reached.{held_along}

module _ (packages : List Package) (kinds : Kinds) (k : ℕ) where
  abbrev Alone : Sided → Type 0
  Alone n = IsThere packages kinds k n.0 × IsForTarget n

  pub alone_from_none : (n : Sided) → IsThereOn packages kinds None k n → IsThere packages kinds k n.0
  alone_from_none n =
      held_along (StartsOn packages) (LeadsOn packages kinds None k) (λ m. IsThere packages kinds k m.0)
      (λ m is. starts m.0 is.root)
      (λ m r here leads. goes_on m.0 r.0 here (record { depends = leads.depends; holds = leads.holds }))
      n

  abbrev OnASide : ℕ → Type 0
  OnASide p = (s : Side) × IsThereOn packages kinds None k (p, s)

  none_after : (p r : ℕ) → OnASide p → LeadsTo packages kinds k p r → OnASide r
  none_after p r (from, here) leads =
      let to = side_after from leads.depends.dependency.kind (is_macro packages r) in
      (to, goes_on (p, from) (r, to) here (record { depends = leads.depends; holds = leads.holds; on = refl }))

  pub none_from_alone : (p : ℕ) → IsThere packages kinds k p → OnASide p
  none_from_alone p =
      held_along (λ root. IsTrue (is_root packages root)) (LeadsTo packages kinds k) OnASide
      (λ p is.
      let on = side (is_macro packages p) in (on, starts (p, on) (record { root = is; on = refl })))
      none_after p

  module _ (host : KnownTarget) (plain : IsPlain packages) where
    evaluated_here : (p : ℕ) (d : Dependency) → Contains (dependencies packages p) d
        → evaluated_at (Some host) k Target d.kind ≡ k
    evaluated_here p d is = ap (λ (kind : Kind). evaluated_at (Some host) k Target kind) (plain.normal p d is)

    after_here : (p r : ℕ) (d : Dependency) → Contains (dependencies packages p) d
        → side_after Target d.kind (is_macro packages r) ≡ Target
    after_here p r d is =
        ap (λ (kind : Kind). side_after Target kind (is_macro packages r)) (plain.normal p d is)
        ∙ ap (λ (b : Bool). side_after Target Normal b) (plain.no_macro r)

    pub alone_from_some : (n : Sided) → IsThereOn packages kinds (Some host) k n → Alone n
    alone_from_some n =
        held_along (StartsOn packages) (LeadsOn packages kinds (Some host) k) Alone
        (λ m is. (starts m.0 is.root, is.on ∙ ap side (plain.no_macro m.0)))
        (λ m r here leads.
        let d = leads.depends.dependency in
        let at : evaluated_at (Some host) k m.1 d.kind ≡ k =
        ap (λ (s : Side). evaluated_at (Some host) k s d.kind) here.1 ∙ evaluated_here m.0 d leads.depends.begins in (
          goes_on m.0 r.0 here.0 (record {
            depends = leads.depends;
            holds = subst (λ (x : ℕ). IsTrue (is_member d.holds x)) at leads.holds;
          }),
          leads.on
              ∙ ap (λ (s : Side). side_after s d.kind (is_macro packages r.0)) here.1
              ∙ after_here m.0 r.0 d leads.depends.begins,
        ))
        n

    pub some_from_alone : (n : Sided) → Alone n → IsThereOn packages kinds (Some host) k n
    some_from_alone n alone =
        let here = held_along (λ root. IsTrue (is_root packages root)) (LeadsTo packages kinds k)
        (λ p. IsThereOn packages kinds (Some host) k (p, Target))
        (λ p is. starts (p, Target) (record { root = is; on = sym (ap side (plain.no_macro p)) }))
        (λ p r here leads.
        let d = leads.depends.dependency in
        goes_on (p, Target) (r, Target) here (record {
          depends = leads.depends;
          holds = subst (λ (x : ℕ). IsTrue (is_member d.holds x))
              (sym (evaluated_here p d leads.depends.begins)) leads.holds;
          on = sym (after_here p r d leads.depends.begins);
        }))
        n.0 alone.0 in
        subst (λ (s : Side). IsThereOn packages kinds (Some host) k (n.0, s)) (sym alone.1) here
