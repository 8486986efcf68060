-- The dependencies that packages use, to a side.
use Rattle.std.proofs.Common.{◌≡◌, ℕ, Bool, true, ◌&&◌, ◌||◌, Some, sym, ◌∙◌, ap, subst, inl, inr}
use Rattle.std.proofs.Common.{◌<◌, List, length, get_or, slice_get}
use Rattle.std.proofs.lemmas.Option.{same_Some, slice_get-get_or}
use Rattle.std.specs.Prelude.{IsTrue}
use Rattle.std.proofs.lemmas.Bool.{and_parts, and_from, or_cases}
use Rattle.package_graphs.specs.Kinds.{is_followed}
use Rattle.package_graphs.specs.Packages.{is_same}
use Rattle.package_graphs.specs.declared.sides.Side.{Side}
use Rattle.package_graphs.specs.declared.sides.Side.TheVariants.{Target, Host}
use Rattle.package_graphs.proofs.Followed.{same_from, same_to, from_side}
use Rattle.cargo_features.specs.Resolved.{is_using, IsUsing}
use Rattle.cargo_features.specs.Destinations.{destination}
use Rattle.cargo_features.specs.declared.packages.Dependency.{Dependency}
use Rattle.cargo_features.specs.declared.packages.Package.{Package}
use Rattle.cargo_features.specs.declared.resolved.Resolved.{Resolved}

-- an element that was read
pub got : {X : Type 0} (xs ys : List X) (i : ℕ) (x : X) → xs ≡ ys → i < length xs → x ≡ get_or xs i x
    → slice_get ys i ≡ Some x
got {X} xs ys i x same below read =
    subst (λ (zs : List X). slice_get zs i ≡ Some x) same (slice_get-get_or xs i x below ∙ ap Some (sym read))

module _ (r : Resolved) (p i : ℕ) (to : Side) (k : ℕ) (unit : Package)
    (there : slice_get r.packages.items p ≡ Some unit) (d : Dependency)
    (declared : slice_get unit.dependencies.items i ≡ Some d) where
  -- true if the package uses the dependency from this side, and it leads to the other
  abbrev pub uses_from : Side → Bool
  uses_from from = is_same (destination r.packages.items from d).side to && is_using r p from i d k

  on_side : IsTrue (is_followed r.build.kinds unit.is_root d.kind) → (from : Side) → uses_from from ≡ true
      → IsUsing r p i to k
  on_side followed from h =
      let parts = and_parts (is_same (destination r.packages.items from d).side to) (is_using r p from i d k) h in
      record {
        unit = unit;
        there = there;
        dependency = d;
        declared = declared;
        followed = followed;
        from = from;
        leads = same_from (destination r.packages.items from d).side to parts.0;
        uses = parts.1;
      }

  pub to_using : IsTrue (is_followed r.build.kinds unit.is_root d.kind)
      → (uses_from Target || uses_from Host) ≡ true → IsUsing r p i to k
  to_using followed h = elim (or_cases (uses_from Target) (uses_from Host) h) as (λ _. IsUsing r p i to k) [
    | inl a ↦ on_side followed Target a
    | inr b ↦ on_side followed Host b
  ]

  pub from_using : IsUsing r p i to k → (uses_from Target || uses_from Host) ≡ true
  from_using h =
      let same_unit = same_Some h.unit unit (sym h.there ∙ there) in
      let found = subst (λ (u : Package). slice_get u.dependencies.items i ≡ Some d) (sym same_unit) declared in
      let same = same_Some h.dependency d (sym h.declared ∙ found) in
      from_side uses_from h.from
      (subst (λ (x : Dependency). (is_same (destination r.packages.items h.from x).side to
      && is_using r p h.from i x k) ≡ true)
      same
      (and_from (is_same (destination r.packages.items h.from h.dependency).side to)
      (is_using r p h.from i h.dependency k)
      (same_to (destination r.packages.items h.from h.dependency).side to h.leads) h.uses))
