use Rattle.std.proofs.Common.{◌≡◌, map, take}
use Rattle.cyclonedx.specs.Relations.{reference_at}
use Rattle.cyclonedx.proofs.relations.references_at.Given as goal

abbrev pub invariant-loop-place : goal.invariant-loop-place
invariant-loop-place l = map (λ name. name.now) l.names.items ≡ map (reference_at l.nodes) (take l.place-index l.places)
