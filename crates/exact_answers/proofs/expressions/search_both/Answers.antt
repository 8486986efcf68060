use Rattle.std.proofs.Common.{refl, true, List, [], ◌∷◌}
use Rattle.std.proofs.lemmas.Result.{IfOk-weaker}
use Rattle.cargo_platform.specs.Trees.{tree_of, tree, none}
use Rattle.exact_answers.specs.declared.goal_diagrams.building.Goal.{Goal}
use Rattle.exact_answers.proofs.Answering.{both_say}
use Rattle.exact_answers.proofs.Spending.{needs_more_by}
use Rattle.exact_answers.proofs.expressions.search_both.Goals as goal

pub returns : goal.returns
returns c =
    let first = c.args.first in
    let second = c.args.second in
    let trees = tree (tree_of first.e.now) (tree (tree_of second.e.now) none) in
    let gs : List Goal =
    record { e = c.args.known.now.assumed; wanted = true } ∷ first ∷ second ∷ [] in
    IfOk-weaker _ _ _
    (λ r. both_say c.args.known.now first.e.now second.e.now first.wanted second.wanted gs c.args.budget trees r
    (needs_more_by c.args.known.now trees c.args.budget) (λ c is. is) (λ s. refl))
    c.search_assuming.ensures
