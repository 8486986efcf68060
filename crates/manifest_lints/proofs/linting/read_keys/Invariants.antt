use Rattle.std.proofs.Common.{◌≡◌, map, take}
use Rattle.std.specs.List.{All}
use Rattle.manifests.specs.Entries.{entry_of}
use Rattle.manifest_lints_findings.specs.Spells.{IsRead, entry_read}
use Rattle.manifest_lints.proofs.linting.read_keys.Given as goal

abbrev pub invariant-keys : goal.invariant-keys
invariant-keys l =
    (map entry_read l.read.items ≡ map entry_of (take l.key-index l.keys)) × All IsRead l.read.items
