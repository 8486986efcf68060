use Rattle.std.proofs.Common.{◌≡◌, ◌++◌, flat_map, take}
use Rattle.partial_facts.specs.Partly.{names_of}
use Rattle.predicate_classes.specs.Classes.{flag_names, opened_by, classified_by}
use Rattle.predicate_classes.proofs.key_predicates.open_names.Given as goal

abbrev pub invariant-predicates : goal.invariant-predicates
invariant-predicates l =
    names_of l.open.items ≡ flag_names ++ flat_map opened_by (classified_by (take l.each-index l.predicates))
