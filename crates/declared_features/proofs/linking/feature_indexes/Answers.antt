use Rattle.std.proofs.Common.{◌≡◌, ◌<◌, ◌≤◌, ℕ, List, Option, Bor, length, subst, sym, arith}
use Rattle.std.specs.Option.{option_copied}
use Rattle.declared_features.specs.Manifests.{feature_index, features_in}
use Rattle.declared_features.specs.declared.manifests.Feature.{Feature}
use Rattle.declared_features.specs.declared.manifests.PackageDeclaration.{PackageDeclaration}
use Rattle.cargo_metadata.specs.Indexes.{index_at}
use Rattle.declared_features.proofs.Positions.{index_more, index_whole}
use Rattle.declared_features.proofs.linking.feature_indexes.Goals as goal

pub features-init : goal.features-init
features-init c = c.new-indexes.ensures

pub features-preserved : goal.features-preserved
features-preserved c =
    let fs = c.in-Some.manifest.now.features in
    let i = c.features.i in
    let below : i < length fs.items = omega (arith, c.features-test.true, c.len-i-end.ensures, fs.ok.0) in
    index_more (λ (f : Feature). f.name.now) fs.items i c.index.result.now (index_at c.features.indexes)
    (index_at c.add.new.self) below
    c.index.ensures c.in_ok-add.ensures.added c.features.invariant

pub returns : goal.returns
returns c =
    let fs = c.in-Some.manifest.now.features in
    let past : length fs.items ≤ c.features.i = omega (arith, c.features-test.false, c.len-i-end.ensures, fs.ok.0) in
    subst (λ (o : Option (Bor PackageDeclaration)). (q : List ℕ)
    → index_at c.features.indexes q ≡ feature_index (features_in (option_copied o)) q) (sym c.in-Some.is)
    (index_whole (λ (f : Feature). f.name.now) fs.items c.features.i (index_at c.features.indexes) past
    c.features.invariant)
