use Rattle.std.proofs.Common.{◌≡◌, ◌<◌, ◌≤◌, ◌+◌, ◌∙◌, ◌⊎◌, inl, inr, ℕ, List, Option, Some, None, Bor, Vec, Global}
use Rattle.std.proofs.Common.{Bool, true, false}
use Rattle.std.proofs.Common.{length, take, get_or, sym, refl, ap, subst, arith, map}
use Rattle.serde_json.specs.View.{view}
use Rattle.declared_features.specs.NameSets.{HasName, AddsNames}
use Rattle.declared_features.specs.MissingEdges.{IsListed, TurnOn, IsTurnedOnIn}
use Rattle.declared_features.specs.declared.entries.FeatureEntry.{FeatureEntry}
use Rattle.declared_features.specs.declared.manifests.Feature.{Feature}
use Rattle.declared_features.proofs.Growing.{grown_next, grown_end, grown_as, just_names}
use Rattle.declared_features.proofs.missing_edges.enabled_in_document.Goals as goal

pub features-preserved : goal.features-preserved
features-preserved c =
    let fs = c.args.manifest.now.features in
    let i = c.features.i in
    let feature = c.index-feature.result.now in
    let document = view c.args.document.now in
    let below : i < length fs.items = omega (arith, c.features-test.true, c.len-i-end.ensures, fs.ok.0) in
    let Q : Feature → List ℕ → Type 0 =
    λ f q. IsListed document c.args.node f.name.now × TurnOn f.lists.items q in
    let is_listed = c.in_ok-enabled.ensures feature.name.now in
    let added =
    subst (λ (es : List FeatureEntry). AddsNames c.features.names c.add_if.new.names
    (λ q. (c.contains.result ≡ true) × TurnOn es q)) c.deref.ensures.value c.in_ok-add_if.ensures in
    grown_next (HasName c.new-names.result) (HasName c.features.names) (HasName c.add_if.new.names) fs.items i feature Q
    below c.index-feature.ensures
    (grown_as (HasName c.features.names) (HasName c.add_if.new.names)
    (λ q. (c.contains.result ≡ true) × TurnOn feature.lists.items q) (Q feature) added
    (λ q h. (is_listed.0 (sym c.contains.ensures ∙ h.0), h.1))
    (λ q h. (c.contains.ensures ∙ is_listed.1 h.0, h.1))) c.features.invariant

pub returns : goal.returns
returns c =
    let fs = c.args.manifest.now.features in
    let document = view c.args.document.now in
    let past : length fs.items ≤ c.features.i = omega (arith, c.features-test.false, c.len-i-end.ensures, fs.ok.0) in
    just_names c.new-names.result c.features.names (IsTurnedOnIn document c.args.node fs.items)
    c.new-names.ensures.empty (grown_end (HasName c.new-names.result) (HasName c.features.names) fs.items c.features.i
    (λ f q. IsListed document c.args.node f.name.now × TurnOn f.lists.items q) past c.features.invariant)
