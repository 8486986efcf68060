-- Each line so far spelled the fact at its place.
use Rattle.std.proofs.Common.{map}
use Rattle.cargo_platform.specs.Trees.{value_of}
use Rattle.cargo_platform.specs.FactLines.{SpellFacts}
use Rattle.cargo_platform.proofs.fact_lines.read_facts.Given as goal

abbrev pub invariant-loop-line : goal.invariant-loop-line
invariant-loop-line l = SpellFacts (map (λ x. x.now) l.yielded) (map value_of l.facts.items)
