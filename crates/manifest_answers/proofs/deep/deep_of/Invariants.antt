use Rattle.std.proofs.Common.{map, take}
use Rattle.std.specs.List.{All}
use Rattle.manifests.specs.Entries.{entry_of}
use Rattle.manifest_answers.specs.Deep.{IsShallowEntry}
use Rattle.manifest_answers.proofs.deep.deep_of.Given as goal

-- no key so far is too deep
abbrev pub invariant-keys : goal.invariant-keys
invariant-keys l = All IsShallowEntry (map entry_of (take l.key-index l.keys))
