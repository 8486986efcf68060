use Rattle.std.proofs.Common.{◌∙◌, ap, map}
use Rattle.cargo_platform.specs.Trees.{value_of, tree_of}
use Rattle.cargo_platform.specs.Facts.{fact_set, truth}
use Rattle.callers.proofs.partial.planner.matches_plan.Goals as goal

pub returns-in-Ok-clause-answer : goal.returns-in-Ok-clause-answer
returns-in-Ok-clause-answer c d spells =
    c.matches.ensures
    ∙ ap (truth (fact_set (map value_of c.args.facts.now)))
    (c.one_text.ensures.expressions c.args.text.now (tree_of c.in-Ok.e) d c.in-Ok.ensures.tree spells)
