use Rattle.std.proofs.Common.{◌≡◌, map, take}
use Rattle.cargo_platform.specs.Trees.{value_of}
use Rattle.manifests.specs.Declarations.{declarations_of}
use Rattle.predicate_classes.specs.Classes.{classified_by, classified_with_declarations}
use Rattle.predicate_classes.proofs.key_predicates.key_predicates.Given as goal

abbrev pub invariant-values : goal.invariant-values
invariant-values l =
    classified_by l.predicates.items
    ≡ map (λ c. classified_with_declarations (declarations_of l.declared) (value_of c.now)) (take l.index l.values)
