-- Each fact so far is after its length.
use Rattle.std.proofs.Common.{◌≡◌, ◌++◌, map, take}
use Rattle.cargo_platform.specs.Trees.{value_of}
use Rattle.byte_answers.specs.LengthPrefixed.{facts_with_lengths}
use Rattle.byte_answers.proofs.length_prefixed.push_facts.Given as goal

abbrev pub invariant-loop-fact : goal.invariant-loop-fact
invariant-loop-fact l =
    l.out.items ≡ l.initial.out.items ++ facts_with_lengths (map value_of (take l.fact-index l.facts))
