-- The dependencies that are followed to a side.
use Rattle.std.proofs.Common.{◌≡◌, ℕ, Bool, true, false, ◌&&◌, ◌||◌, List, Option, refl, sym, ap, inl, inr}
use Rattle.std.specs.Prelude.{IsTrue}
use Rattle.std.proofs.lemmas.Bool.{and_parts, and_from, or_cases, or_left, or_right, false≢true}
use Rattle.known_targets.specs.Sets.{is_member}
use Rattle.known_targets.specs.declared.known.KnownTarget.{KnownTarget}
use Rattle.package_graphs.specs.Following.{IsFollowedTo}
use Rattle.package_graphs.specs.Kinds.{is_followed}
use Rattle.package_graphs.specs.Packages.{is_root, is_macro, is_on, is_same, evaluated_at, side_after}
use Rattle.package_graphs.specs.declared.package_sets.PackageTargets.{PackageTargets}
use Rattle.package_graphs.specs.declared.packages.Dependency.{Dependency}
use Rattle.package_graphs.specs.declared.packages.Kinds.{Kinds}
use Rattle.package_graphs.specs.declared.packages.Package.{Package}
use Rattle.package_graphs.specs.declared.sides.Side.{Side}
use Rattle.package_graphs.specs.declared.sides.Side.TheVariants.{Target, Host}

pub same_from : (s t : Side) → is_same s t ≡ true → s ≡ t
same_from Target Target h = refl
same_from Target Host h = absurd (false≢true h)
same_from Host Target h = absurd (false≢true h)
same_from Host Host h = refl

pub same_to : (s t : Side) → s ≡ t → is_same s t ≡ true
same_to Target t h = sym (ap (λ (x : Side). is_same Target x) h)
same_to Host t h = sym (ap (λ (x : Side). is_same Host x) h)

-- one of both sides
pub from_side : (at : Side → Bool) (s : Side) → at s ≡ true → (at Target || at Host) ≡ true
from_side at Target h = or_left (at Target) (at Host) h
from_side at Host h = or_right (at Target) (at Host) h

-- true if the dependency d leads from the side `on` of a package to the side `to`
abbrev pub leads_with : PackageTargets → Option KnownTarget → Bool → ℕ → Dependency → Side → ℕ → Side → Bool
leads_with sets host is_macro from d to k on =
    is_same (side_after on d.kind is_macro) to
    && (is_on sets from on k && is_member d.holds (evaluated_at host k on d.kind))

module _ (sets : PackageTargets) (packages : List Package) (kinds : Kinds) (host : Option KnownTarget) (from : ℕ)
    (d : Dependency) (to : Side) (k : ℕ) where
  abbrev pub leads_from : Side → Bool
  leads_from on = leads_with sets host (is_macro packages d.to) from d to k on

  pub to_from : IsTrue (is_followed kinds (is_root packages from) d.kind) → (on : Side) → leads_from on ≡ true
      → IsFollowedTo sets packages kinds host from d to k
  to_from followed on h =
      let same = and_parts (is_same (side_after on d.kind (is_macro packages d.to)) to) _ h in
      let parts = and_parts (is_on sets from on k) _ same.1 in
      record {
        follows = record { on = on; there = parts.0; followed = followed; holds = parts.1 };
        leads = same_from (side_after on d.kind (is_macro packages d.to)) to same.0;
      }

  pub from_to : IsFollowedTo sets packages kinds host from d to k → (leads_from Target || leads_from Host) ≡ true
  from_to h =
      from_side leads_from h.follows.on
      (and_from (is_same (side_after h.follows.on d.kind (is_macro packages d.to)) to) _
      (same_to (side_after h.follows.on d.kind (is_macro packages d.to)) to h.leads)
      (and_from (is_on sets from h.follows.on k) _ h.follows.there h.follows.holds))

  pub to_either : IsTrue (is_followed kinds (is_root packages from) d.kind)
      → (leads_from Target || leads_from Host) ≡ true → IsFollowedTo sets packages kinds host from d to k
  to_either followed h =
      elim (or_cases (leads_from Target) (leads_from Host) h)
      as (λ _. IsFollowedTo sets packages kinds host from d to k) [
        | inl a ↦ to_from followed Target a
        | inr b ↦ to_from followed Host b
      ]
