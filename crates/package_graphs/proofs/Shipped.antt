-- What the host needs is for the host, and adds nothing for the target.
use Rattle.std.proofs.Common.{◌≡◌, ℕ, Bool, true, false, ◌||◌, List, Option, Some, None, refl, sym, ◌∙◌, ap, subst}
use Rattle.std.specs.Prelude.{IsTrue}
use Rattle.std.proofs.lemmas.Bool.{or_right, false≢true}
use Rattle.known_targets.specs.Sets.{is_member}
use Rattle.known_targets.specs.declared.known.KnownTarget.{KnownTarget}
use Rattle.package_graphs.specs.Reaching.{starts, goes_on}
use Rattle.package_graphs.specs.Kinds.{is_followed}
use Rattle.package_graphs.specs.Packages.{is_root, is_macro, is_of_host, is_build, is_same, shipped}
use Rattle.package_graphs.specs.Packages.{side, side_after, evaluated_at}
use Rattle.package_graphs.specs.Packages.{Sided, IsForTarget, IsForHost, StartsOn, LeadsOn, IsThereOn}
use Rattle.package_graphs.specs.declared.packages.Kind.{Kind}
use Rattle.package_graphs.specs.declared.packages.Kind.TheVariants.{Normal, Build, Dev}
use Rattle.package_graphs.specs.declared.packages.Kinds.{Kinds}
use Rattle.package_graphs.specs.declared.packages.Package.{Package}
use Rattle.package_graphs.specs.declared.sides.Side.{Side}
use Rattle.package_graphs.specs.declared.sides.Side.TheVariants.{Target, Host}
use Rattle.package_graphs.proofs.Reached.{held_along}

-- ---- for the host

pub of_build : (from : Side) (kind : Kind) → is_build kind ≡ true → is_of_host from kind ≡ true
of_build Host kind h = refl
of_build Target Normal h = absurd (false≢true h)
of_build Target Build h = refl
of_build Target Dev h = absurd (false≢true h)

pub after_evaluated : (from : Side) (kind : Kind) (is_macro : Bool) → is_of_host from kind ≡ true
    → side_after from kind is_macro ≡ Host
after_evaluated from kind is_macro h = ap (λ (b : Bool). side (b || is_macro)) h

pub after_host : (from : Side) (kind : Kind) (is_macro : Bool) → from ≡ Host → side_after from kind is_macro ≡ Host
after_host from kind is_macro h = ap (λ (s : Side). side_after s kind is_macro) h

pub after_macro : (from : Side) (kind : Kind) (is_macro : Bool) → is_macro ≡ true → side_after from kind is_macro ≡ Host
after_macro from kind is_macro h = ap side (or_right (is_of_host from kind) is_macro h)

-- ---- for the target

no_host : {X : Type 0} → Host ≡ Target → X
no_host {X} h = absurd (false≢true (ap (λ (s : Side). is_same Target s) h))

-- a dependency that leads to a package for the target, of one for the target, and no build-dependency
pub record Ships (from : Side) (kind : Kind) : Type 0 where
  pub on : from ≡ Target
  pub no_build : is_build kind ≡ false

pub ships : (from : Side) (kind : Kind) (is_macro : Bool) → side_after from kind is_macro ≡ Target → Ships from kind
ships Host kind is_macro h = no_host h
ships Target Normal is_macro h = record { on = refl; no_build = refl }
ships Target Build is_macro h = no_host h
ships Target Dev is_macro h = record { on = refl; no_build = refl }

pub same_shipped : (kinds : Kinds) (root : Bool) (kind : Kind) → is_build kind ≡ false
    → is_followed kinds root kind ≡ is_followed (shipped kinds) root kind
same_shipped kinds root Normal h = refl
same_shipped kinds root Build h = absurd (false≢true (sym h))
same_shipped kinds root Dev h = refl

evaluated_there : (host : Option KnownTarget) (k : ℕ) (kind : Kind) → is_build kind ≡ false
    → evaluated_at host k Target kind ≡ k
evaluated_there None k kind h = refl
evaluated_there (Some host) k Normal h = refl
evaluated_there (Some host) k Build h = absurd (false≢true (sym h))
evaluated_there (Some host) k Dev h = refl

module _ (packages : List Package) (kinds others : Kinds) (host other : Option KnownTarget) (k : ℕ)
    (same : (root : Bool) (kind : Kind) → is_build kind ≡ false
    → is_followed kinds root kind ≡ is_followed others root kind) where
  abbrev Shipped : Sided → Type 0
  Shipped n = IsForTarget n → IsThereOn packages others other k n

  shipped_first : (n : Sided) → StartsOn packages n → Shipped n
  shipped_first n is _ = starts n is

  shipped_on : (m n : Sided) → Shipped m → LeadsOn packages kinds host k m n → Shipped n
  shipped_on m n here leads target =
      let d = leads.depends.dependency in
      let s = ships m.1 d.kind (is_macro packages n.0) (sym leads.on ∙ target) in
      let at : (h : Option KnownTarget) → evaluated_at h k m.1 d.kind ≡ k =
      λ h. ap (λ (x : Side). evaluated_at h k x d.kind) s.on ∙ evaluated_there h k d.kind s.no_build in
      goes_on m n (here s.on) (record {
        depends = record {
          dependency = d;
          begins = leads.depends.begins;
          ends = leads.depends.ends;
          followed = sym (same (is_root packages m.0) d.kind s.no_build) ∙ leads.depends.followed;
        };
        holds = subst (λ (x : ℕ). IsTrue (is_member d.holds x)) (at host ∙ sym (at other)) leads.holds;
        on = leads.on;
      })

  pub shipped_too : (n : Sided) → IsForTarget n → IsThereOn packages kinds host k n
      → IsThereOn packages others other k n
  shipped_too n target here =
      held_along (StartsOn packages) (LeadsOn packages kinds host k) Shipped shipped_first shipped_on n here target

-- ---- macros

pub macro_there : (packages : List Package) (kinds : Kinds) (host : Option KnownTarget) (k : ℕ) (n : Sided)
    → IsThereOn packages kinds host k n → is_macro packages n.0 ≡ true → IsForHost n
macro_there packages kinds host k n there =
    held_along (StartsOn packages) (LeadsOn packages kinds host k)
    (λ n. is_macro packages n.0 ≡ true → IsForHost n)
    (λ m is h. is.on ∙ ap side h)
    (λ m r here leads h. leads.on ∙ after_macro m.1 leads.depends.dependency.kind (is_macro packages r.0) h)
    n there
