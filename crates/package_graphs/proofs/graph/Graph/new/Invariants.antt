use Rattle.std.proofs.Common.{◌≡◌, [], map, replicate}
use Rattle.package_graphs.proofs.graph.Graph.new.Given as goal

abbrev pub invariant-nodes : goal.invariant-nodes
invariant-nodes l = map (λ edges. edges.items) l.nodes.items ≡ replicate l.counter []
