use Rattle.std.proofs.Common.{◌≡◌, ℕ, List, take}
use Rattle.cargo_metadata.specs.Indexes.{index_at}
use Rattle.declared_features.specs.Manifests.{index_of_id}
use Rattle.declared_features.proofs.declaring.indexes_of_ids.Given as goal

abbrev pub invariant-packages : goal.invariant-packages
invariant-packages l = (q : List ℕ) → index_at l.ids q ≡ index_of_id (take l.i l.packages) q
