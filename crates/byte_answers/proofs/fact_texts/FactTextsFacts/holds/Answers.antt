use Rattle.std.proofs.Common.{◌∙◌, ap}
use Rattle.std.specs.List.{list_any}
use Rattle.std.specs.Ordering.{eq_by_cmp}
use Rattle.cargo_platform.specs.Key.{value_cmp}
use Rattle.cargo_platform.specs.Trees.{value_of}
use Rattle.byte_answers.specs.FactTexts.{text_value}
use Rattle.byte_answers.proofs.FactTexts.{is_in_set}
use Rattle.byte_answers.proofs.fact_texts.FactTextsFacts.holds.Goals as goal

pub returns : goal.returns
returns c =
    let v = value_of c.args.c.now in
    c.is_among.ensures ∙ ap (λ z. list_any (λ fact. eq_by_cmp value_cmp (text_value fact) v) z) c.deref.ensures.value
    ∙ is_in_set v c.args.self.now.facts.items
