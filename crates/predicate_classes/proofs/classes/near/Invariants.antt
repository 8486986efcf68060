use Rattle.std.proofs.Common.{◌≡◌, drop}
use Rattle.std.specs.List.{list_any}
use Rattle.partial_facts.specs.Partly.{names_of}
use Rattle.predicate_classes.specs.Classes.{is_one_edit_from}
use Rattle.predicate_classes.proofs.classes.near.Given as goal

-- the answer hangs on the words that are left
abbrev pub invariant-words : goal.invariant-words
invariant-words l =
    list_any (is_one_edit_from l.text) (names_of (drop l.word-index l.words))
    ≡ list_any (is_one_edit_from l.text) (names_of l.words)
