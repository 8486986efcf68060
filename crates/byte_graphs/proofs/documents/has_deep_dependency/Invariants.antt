use Rattle.byte_graphs.specs.Documents.{HasDeepKind}
use Rattle.byte_graphs.proofs.Searching.{NoneBefore}
use Rattle.byte_graphs.proofs.documents.has_deep_dependency.Given as goal

abbrev pub invariant-dependencies : goal.invariant-dependencies
invariant-dependencies l = NoneBefore HasDeepKind l.node.dependencies.items l.i
