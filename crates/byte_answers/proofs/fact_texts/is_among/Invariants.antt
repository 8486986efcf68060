use Rattle.std.proofs.Common.{◌≡◌, false, take}
use Rattle.std.specs.List.{list_any}
use Rattle.std.specs.Ordering.{eq_by_cmp}
use Rattle.cargo_platform.specs.Key.{value_cmp}
use Rattle.cargo_platform.specs.Trees.{value_of}
use Rattle.byte_answers.specs.FactTexts.{text_value}
use Rattle.byte_answers.proofs.fact_texts.is_among.Given as goal

-- none of the facts so far is equal
abbrev pub invariant-loop-fact : goal.invariant-loop-fact
invariant-loop-fact l =
    list_any (λ fact. eq_by_cmp value_cmp (text_value fact) (value_of l.c)) (take l.fact-index l.facts) ≡ false
