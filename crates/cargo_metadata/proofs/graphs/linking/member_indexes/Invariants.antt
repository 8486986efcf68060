use Rattle.cargo_metadata.specs.Inside.Finding.{AreMembersAmong}
use Rattle.cargo_metadata.proofs.graphs.linking.member_indexes.Given as goal

abbrev pub invariant-members : goal.invariant-members
invariant-members l = AreMembersAmong l.metadata l.indexes l.i
