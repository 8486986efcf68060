use Rattle.std.proofs.Common.{subst, ℕ, List}
use Rattle.cargo_platform.specs.Trees.{condition_of}
use Rattle.byte_answers.specs.Comparisons.{SaysPossible}
use Rattle.byte_answers.proofs.relations.can_hold.Goals as goal

pub returns-in-Ok-clause-done : goal.returns-in-Ok-clause-done
returns-in-Ok-clause-done c = λ done. (
  condition_of c.in-Ok.platform,
  (
    c.in-Ok.ensures.condition,
    subst (λ (z : List ℕ). SaysPossible (condition_of c.in-Ok.platform) c.possible.result z c.possible.new.out)
        c.in-Ok.ensures.unwritten (c.possible.ensures.done done),
  ),
)

pub returns-in-Ok-clause-undecided : goal.returns-in-Ok-clause-undecided
returns-in-Ok-clause-undecided c = λ is.
    (condition_of c.in-Ok.platform, (c.in-Ok.ensures.condition, c.possible.ensures.undecided is))
