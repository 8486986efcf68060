use Rattle.cargo_platform.specs.Trees.{condition_of}
use Rattle.exact_answers.proofs.Targets.{exclude_says, must_by}
use Rattle.exact_answers.proofs.platforms.excludes_platform.Goals as goal

pub returns : goal.returns
returns c =
    must_by c.as_must.result c.in_ok-found.found _ _ _ _ _ c.as_must.ensures
    (exclude_says c.args.known.now (condition_of c.args.a.now) (condition_of c.args.b.now) c.args.budget
    c.in_ok-found.found c.in_ok-found.ensures)
