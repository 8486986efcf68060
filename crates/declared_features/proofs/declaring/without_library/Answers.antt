use Rattle.std.proofs.Common.{◌≡◌, ◌<◌, ℕ, List, Option, Some, None, cond, length, subst, refl}
use Rattle.std.specs.Prelude.{is_some, option_map, slice_get}
use Rattle.std.proofs.lemmas.Option.{slice_get_read}
use Rattle.declared_features.specs.Lists.{SomeAt}
use Rattle.declared_features.specs.Manifests.{IsWithoutLibrary}
use Rattle.declared_features.specs.NameSets.{HasName, AddsNames}
use Rattle.declared_features.specs.declared.manifests.PackageDeclaration.{PackageDeclaration}
use Rattle.declared_features.proofs.Growing.{grown_at_next, grown_at_end, grown_as, just_names}
use Rattle.declared_features.proofs.Missing.{lacks_library, named_without}
use Rattle.declared_features.proofs.declaring.without_library.Goals as goal

pub manifests-preserved : goal.manifests-preserved
manifests-preserved c =
    let ms = c.args.manifests.now in
    let i = c.manifests.i in
    let P : ℕ → PackageDeclaration → List ℕ → Type 0 =
    λ i m q. cond (is_some m.library) None (option_map (λ p. p.name.now)
    (slice_get c.args.metadata.now.packages.items i)) ≡ Some q in
    grown_at_next (HasName c.new-names.result) (HasName c.manifests.names) (HasName c.add_name.new.names) ms i
    c.index-manifests-i.result P
    (slice_get_read ms (length ms) i c.index-manifests-i.result refl c.manifests-test.true c.index-manifests-i.is)
    (subst (λ (o : Option (List ℕ)). AddsNames c.manifests.names c.add_name.new.names (λ q. o ≡ Some q))
    c.name_without_library.ensures c.in_ok-add_name.ensures) c.manifests.invariant

pub returns : goal.returns
returns c =
    let ms = c.args.manifests.now in
    let packages = c.args.metadata.now.packages.items in
    let P : ℕ → PackageDeclaration → List ℕ → Type 0 =
    λ i m q. cond (is_some m.library) None (option_map (λ p. p.name.now) (slice_get packages i)) ≡ Some q in
    just_names c.new-names.result c.manifests.names (IsWithoutLibrary packages ms) c.new-names.ensures.empty
    (grown_as (HasName c.new-names.result) (HasName c.manifests.names) (λ q. SomeAt ms (λ i m. P i m q))
    (IsWithoutLibrary packages ms)
    (grown_at_end (HasName c.new-names.result) (HasName c.manifests.names) ms c.manifests.i P c.manifests-test.false
    c.manifests.invariant)
    (λ q some.
    let parts = lacks_library some.1.library (slice_get packages some.0) q some.3 in record {
      index = some.0;
      unit = parts.1.0;
      manifest = some.1;
      there = parts.1.1;
      declares = some.2;
      named = parts.1.2;
      none = parts.0;
    })
    (λ q is. (
      is.index,
      is.manifest,
      is.declares,
      named_without is.manifest.library (slice_get packages is.index) q is.unit is.none is.there is.named,
    )))
