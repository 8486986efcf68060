use Rattle.std.proofs.Common.{rules, map}
use Rattle.cargo_platform.specs.Trees.{condition_of, value_of}
use Rattle.byte_answers.proofs.Texts.{texts_of_condition, texts_of_values}
use Rattle.byte_answers.proofs.trees.flat_matches.Goals as goal

pub returns-in-Ok-Some-clause-done : goal.returns-in-Ok-Some-clause-done
returns-in-Ok-Some-clause-done c = λ done.
    let p = c.in-Ok.platform in
    let facts = c.in-Ok-Some.facts.items in (
      condition_of p,
      (
        map value_of facts,
        (texts_of_condition p, c.in-Ok.ensures.condition, texts_of_values facts, search rules, search rules),
      ),
    )
