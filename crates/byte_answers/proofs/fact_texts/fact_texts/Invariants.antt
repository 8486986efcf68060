-- Each line so far spelled the fact at its place.
use Rattle.std.proofs.Common.{map}
use Rattle.cargo_platform.specs.FactLines.{SpellFacts}
use Rattle.byte_answers.specs.FactTexts.{text_value}
use Rattle.byte_answers.proofs.fact_texts.fact_texts.Given as goal

abbrev pub invariant-loop-line : goal.invariant-loop-line
invariant-loop-line l = SpellFacts (map (λ x. x.now) l.yielded) (map text_value l.facts.items)
