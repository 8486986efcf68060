use Rattle.std.proofs.Common.{refl, subst, true, List, [], ◌∷◌}
use Rattle.std.specs.Prelude.{IfOk}
use Rattle.std.proofs.lemmas.Result.{IfOk-weaker}
use Rattle.cargo_platform.specs.Trees.{none}
use Rattle.exact_answers.specs.Inside.Paths.{base_of}
use Rattle.exact_answers.specs.Inside.Searches.{Searched}
use Rattle.exact_answers.specs.declared.goal_diagrams.building.Goal.{Goal}
use Rattle.exact_answers.proofs.Answering.{any_says}
use Rattle.exact_answers.proofs.Spending.{needs_more_by}
use Rattle.exact_answers.proofs.expressions.search_any.Goals as goal

pub returns : goal.returns
returns c =
    let gs : List Goal =
    record { e = c.args.known.now.assumed; wanted = true } ∷ [] in
    let found =
    subst (λ k. IfOk c.search.result (λ r. Searched (base_of k) gs c.args.budget r)) c.new-path.ensures.known
    c.search.ensures.found in
    IfOk-weaker _ _ _
    (λ r. any_says c.args.known.now gs c.args.budget none r (needs_more_by c.args.known.now none c.args.budget)
    (λ c is. is) (λ s. refl))
    found
