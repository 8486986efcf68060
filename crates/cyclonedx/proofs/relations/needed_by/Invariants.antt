use Rattle.std.proofs.Common.{◌≡◌, take}
use Rattle.cyclonedx.specs.Relations.{needed_by}
use Rattle.cyclonedx.proofs.relations.needed_by.Given as goal

abbrev pub invariant-loop-edge : goal.invariant-loop-edge
invariant-loop-edge l = l.places.items ≡ needed_by l.nodes (take l.edge-index l.edges)
