use Rattle.std.proofs.Common.{◌≡◌, ℕ, List, take}
use Rattle.declared_features.specs.Manifests.{feature_index}
use Rattle.cargo_metadata.specs.Indexes.{index_at}
use Rattle.declared_features.proofs.linking.feature_indexes.Given as goal

abbrev pub invariant-features : goal.invariant-features
invariant-features l = (q : List ℕ) → index_at l.indexes q ≡ feature_index (take l.i l.manifest.features.items) q
