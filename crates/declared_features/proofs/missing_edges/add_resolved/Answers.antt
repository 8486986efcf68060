use Rattle.std.proofs.Common.{◌≡◌, ◌<◌, ◌≤◌, ◌+◌, ◌∙◌, ◌⊎◌, inl, inr, ℕ, List, Option, Some, None, Bor, Vec, Global}
use Rattle.std.proofs.Common.{Bool, true, false}
use Rattle.std.proofs.Common.{length, take, get_or, sym, refl, ap, subst, arith, map}
use Rattle.declared_features.specs.Lists.{SomeAt}
use Rattle.declared_features.specs.Manifests.{features_in}
use Rattle.std.proofs.lemmas.Option.{slice_get_read}
use Rattle.declared_features.specs.NameSets.{HasName, AddsNames}
use Rattle.declared_features.specs.MissingEdges.{IsEnabled, TurnOn}
use Rattle.declared_features.specs.declared.entries.FeatureEntry.{FeatureEntry}
use Rattle.declared_features.specs.declared.manifests.Feature.{Feature}
use Rattle.declared_features.specs.declared.manifests.PackageDeclaration.{PackageDeclaration}
use Rattle.declared_features.proofs.Growing.{grown_at_next, grown_at_end, grown_as}
use Rattle.declared_features.proofs.missing_edges.add_resolved.Goals as goal

pub features-preserved : goal.features-preserved
features-preserved c numbers =
    let fs = c.in-Some.manifest.now.features in
    let i = c.features.i in
    let feature = c.index.result.now in
    let below : i < length fs.items = omega (arith, c.features-test.true, c.len-i-end.ensures, fs.ok.0) in
    let P : ℕ → Feature → List ℕ → Type 0 =
    λ i f q. IsEnabled c.args.resolved.now c.args.node i × TurnOn f.lists.items q in
    let is = c.is_feature_enabled-is_enabled.ensures numbers in
    let added =
    subst (λ (es : List FeatureEntry). AddsNames c.features.names c.add_if.new.names
    (λ q. (c.is_feature_enabled-is_enabled.result ≡ true) × TurnOn es q)) c.deref.ensures.value
    c.in_ok-add_if.ensures in
    grown_at_next (HasName c.args.names.now) (HasName c.features.names) (HasName c.add_if.new.names) fs.items i feature
    P (slice_get_read fs.items (length fs.items) i feature refl below c.index.ensures)
    (grown_as (HasName c.features.names) (HasName c.add_if.new.names)
    (λ q. (c.is_feature_enabled-is_enabled.result ≡ true) × TurnOn feature.lists.items q) (P i feature) added
    (λ q h. (is.0 h.0, h.1)) (λ q h. (is.1 h.0, h.1))) (c.features.invariant numbers)

pub returns : goal.returns
returns c numbers =
    let fs = c.in-Some.manifest.now.features in
    let P : ℕ → Feature → List ℕ → Type 0 =
    λ i f q. IsEnabled c.args.resolved.now c.args.node i × TurnOn f.lists.items q in
    let past : length fs.items ≤ c.features.i = omega (arith, c.features-test.false, c.len-i-end.ensures, fs.ok.0) in
    subst (λ (o : Option PackageDeclaration). AddsNames c.args.names.now c.features.names
    (λ q. SomeAt (features_in o) (λ i f. P i f q))) c.in-Some.ensures
    (grown_at_end (HasName c.args.names.now) (HasName c.features.names) fs.items c.features.i P past
    (c.features.invariant numbers))
