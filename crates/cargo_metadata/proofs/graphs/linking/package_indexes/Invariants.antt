use Rattle.cargo_metadata.specs.Ids.{package_ids}
use Rattle.cargo_metadata.specs.Indexes.{index_at, IsIndex}
use Rattle.cargo_metadata.proofs.graphs.linking.package_indexes.Given as goal

abbrev pub invariant-packages : goal.invariant-packages
invariant-packages l = IsIndex (index_at l.indexes) (package_ids l.metadata.packages.items) l.i
