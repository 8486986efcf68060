use Rattle.std.proofs.Common.{rules}
use Rattle.cargo_platform.specs.Trees.{condition_of}
use Rattle.byte_answers.proofs.Texts.{texts_of_condition}
use Rattle.byte_answers.proofs.trees.flat_print.Goals as goal

pub returns-in-Ok-to_string-clause-done : goal.returns-in-Ok-to_string-clause-done
returns-in-Ok-to_string-clause-done c = λ done.
    let p = c.in-Ok.platform in
    (condition_of p, (texts_of_condition p, c.in-Ok.ensures.condition, search rules))
