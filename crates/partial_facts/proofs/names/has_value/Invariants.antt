use Rattle.std.proofs.Common.{◌≡◌, drop, map, string_bytes}
use Rattle.cargo_platform.specs.Trees.{value_of}
use Rattle.cargo_platform.specs.Facts.{pair_of}
use Rattle.partial_facts.specs.OneValued.{has_value}
use Rattle.partial_facts.proofs.names.has_value.Given as goal

-- the answer depends on the facts that are left
abbrev pub invariant-loop-fact : goal.invariant-loop-fact
invariant-loop-fact l =
    has_value (string_bytes l.key.name) (map pair_of (map value_of (drop l.fact-index l.facts)))
    ≡ has_value (string_bytes l.key.name) (map pair_of (map value_of l.facts))
