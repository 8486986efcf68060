use Rattle.std.proofs.Common.{◌≡◌, drop}
use Rattle.partial_facts.specs.Partly.{is_named, names_of}
use Rattle.partial_facts.proofs.names.is_among.Given as goal

-- the answer depends on the texts that are left
abbrev pub invariant-loop-other : goal.invariant-loop-other
invariant-loop-other l =
    is_named l.text (names_of (drop l.other-index l.texts)) ≡ is_named l.text (names_of l.texts)
