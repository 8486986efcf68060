use Rattle.std.proofs.Common.{◌≡◌, drop}
use Rattle.std.specs.List.{list_any}
use Rattle.partial_facts.specs.Partly.{names_of}
use Rattle.predicate_classes.specs.Classes.{has_as_value}
use Rattle.predicate_classes.proofs.classes.key_of_value.Given as goal

-- the answer hangs on the keys that are left
abbrev pub invariant-keys : goal.invariant-keys
invariant-keys l =
    list_any (has_as_value l.value) (names_of (drop l.key-index l.keys))
    ≡ list_any (has_as_value l.value) (names_of l.keys)
