use Rattle.std.proofs.lemmas.Result.{IfOk-weaker}
use Rattle.std.specs.Option.{option_copied}
use Rattle.cargo_platform.specs.Trees.{tree_of}
use Rattle.exact_answers.specs.Inside.Targets.{wanted_of}
use Rattle.exact_answers.proofs.Targets.{under_says}
use Rattle.exact_answers.proofs.platforms.search_under.Goals as goal

pub returns : goal.returns
returns c =
    IfOk-weaker _ _ _ (λ r. under_says (wanted_of c.args.question.now) (option_copied c.args.name)
    (tree_of c.under.result.now) (tree_of c.under-2.result.now) c.args.budget r
    c.under.ensures c.under-2.ensures) c.search_both.ensures
