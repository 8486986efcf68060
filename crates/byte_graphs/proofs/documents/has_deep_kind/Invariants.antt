use Rattle.byte_graphs.specs.Documents.{IsDeepRow}
use Rattle.byte_graphs.proofs.Searching.{NoneBefore}
use Rattle.byte_graphs.proofs.documents.has_deep_kind.Given as goal

abbrev pub invariant-kinds : goal.invariant-kinds
invariant-kinds l = NoneBefore IsDeepRow l.dependency.kinds.items l.i
