use Rattle.std.proofs.Common.{true, false}
use Rattle.cargo_platform.specs.Trees.{condition_of}
use Rattle.exact_answers.specs.Inside.Targets.{wants}
use Rattle.exact_answers.proofs.Targets.{second_says, must_by, nothing_found}
use Rattle.exact_answers.proofs.platforms.equivalent_platform.Goals as goal

pub returns-in_ok-found-in-Nothing : goal.returns-in_ok-found-in-Nothing
returns-in_ok-found-in-Nothing c =
    must_by c.as_must.result c.in_ok-found-in-Nothing.found _ _ _ _ _ c.as_must.ensures
    (second_says c.args.known.now (condition_of c.args.a.now) (condition_of c.args.b.now) c.args.budget
    c.in_ok-found-in-Nothing.found
    (nothing_found
    (wants c.args.known.now (condition_of c.args.a.now) true (condition_of c.args.b.now) false)
    (λ name. Unit {0}) c.args.budget c.in_ok-target.field-0 c.in-Nothing.is c.in_ok-target.ensures)
    c.in_ok-found-in-Nothing.ensures)
