use Rattle.std.proofs.Common.{◌≡◌, map, take}
use Rattle.partial_facts.specs.Partly.{names_of}
use Rattle.predicate_classes.specs.declared.key_predicates.TheConstants.{OPEN}
use Rattle.predicate_classes.proofs.key_predicates.open_flags.Given as goal

abbrev pub invariant-names : goal.invariant-names
invariant-names l = names_of l.open.items ≡ map (λ w. w.now) (take l.name-index OPEN)
