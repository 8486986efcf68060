use Rattle.std.proofs.Common.{◌≡◌, drop, string_bytes}
use Rattle.partial_facts.specs.Partly.{is_named, names_of}
use Rattle.known_targets.proofs.walk.is_open.Given as goal

-- the answer depends on the texts that are left
abbrev pub invariant-loop-text : goal.invariant-loop-text
invariant-loop-text l =
    is_named (string_bytes l.name.name) (names_of (drop l.text-index l.open_keys))
    ≡ is_named (string_bytes l.name.name) (names_of l.open_keys)
