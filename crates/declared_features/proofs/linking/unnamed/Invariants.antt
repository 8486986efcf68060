use Rattle.std.proofs.Common.{◌≡◌, map}
use Rattle.declared_features.proofs.linking.unnamed.Given as goal

abbrev pub invariant-loop-one : goal.invariant-loop-one
invariant-loop-one l =
    (l.dependencies.items ≡ map (λ one. one.dependency) l.yielded) × (l.edges.items ≡ map (λ one. one.edge) l.yielded)
