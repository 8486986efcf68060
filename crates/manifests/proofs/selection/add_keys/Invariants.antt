use Rattle.std.proofs.Common.{map, take}
use Rattle.manifests.specs.Entries.{entry_of}
use Rattle.manifests.specs.Selecting.{question_in, AreRowsOfKeys, Adds}
use Rattle.manifests.proofs.selection.add_keys.Given as goal

abbrev pub invariant-keys : goal.invariant-keys
invariant-keys l =
    Adds (AreRowsOfKeys (question_in l.query) (map entry_of (take l.key-index l.keys)))
    l.initial.rows.items l.rows.items
