use Rattle.std.proofs.Common.{rules}
use Rattle.cargo_platform.specs.Trees.{condition_of}
use Rattle.byte_answers.proofs.Texts.{texts_of_condition}
use Rattle.byte_answers.proofs.keys.flatten_key.Goals as goal

pub returns-in-Ok-flatten-clause-done : goal.returns-in-Ok-flatten-clause-done
returns-in-Ok-flatten-clause-done c = λ done.
    let p = c.in-Ok.platform in
    (condition_of p, (c.in-Ok.ensures.condition, texts_of_condition p, search rules))
