use Rattle.std.proofs.Common.{refl, true, List, [], ◌∷◌}
use Rattle.std.proofs.lemmas.Result.{IfOk-weaker}
use Rattle.cargo_platform.specs.Trees.{tree_of, tree, none}
use Rattle.exact_answers.specs.declared.goal_diagrams.building.Goal.{Goal}
use Rattle.exact_answers.proofs.Answering.{one_says}
use Rattle.exact_answers.proofs.Spending.{needs_more_by}
use Rattle.exact_answers.proofs.expressions.search_one.Goals as goal

pub returns : goal.returns
returns c =
    let gs : List Goal =
    record { e = c.args.known.now.assumed; wanted = true } ∷ record { e = c.args.e; wanted = c.args.wanted } ∷ [] in
    IfOk-weaker _ _ _
    (λ r. one_says c.args.known.now c.args.e.now c.args.wanted gs c.args.budget (tree (tree_of c.args.e.now) none) r
    (needs_more_by c.args.known.now (tree (tree_of c.args.e.now) none) c.args.budget) (λ c is. is) (λ s. refl))
    c.search_assuming.ensures
