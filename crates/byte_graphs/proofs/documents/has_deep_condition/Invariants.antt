use Rattle.byte_graphs.specs.Documents.{HasDeepDependency}
use Rattle.byte_graphs.proofs.Searching.{NoneBefore}
use Rattle.byte_graphs.proofs.documents.has_deep_condition.Given as goal

abbrev pub invariant-nodes : goal.invariant-nodes
invariant-nodes l = NoneBefore HasDeepDependency l.metadata.nodes.items l.i
