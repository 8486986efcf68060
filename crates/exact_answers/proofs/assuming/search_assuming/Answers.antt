use Rattle.std.proofs.Common.{ℕ, subst, IfSome}
use Rattle.exact_answers.specs.Inside.Paths.{base_of}
use Rattle.exact_answers.specs.Inside.Searches.{Searched}
use Rattle.exact_answers.proofs.assuming.search_assuming.Goals as goal

pub returns-in-Some : goal.returns-in-Some
returns-in-Some c =
    subst (λ o. IfSome o (λ found. (budget : ℕ) → Searched (base_of c.args.known.now) c.args.goals.now budget found))
    c.in-Some.is c.in_ok-found.ensures c.args.budget
