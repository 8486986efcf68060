use Rattle.std.proofs.Common.{subst, ℕ, List, ◌∙◌}
use Rattle.cargo_platform.specs.Trees.{condition_of}
use Rattle.byte_answers.specs.Comparisons.{SaysRelated}
use Rattle.byte_answers.proofs.relations.relates.Goals as goal

pub returns-in-Ok-read_condition-clause-done : goal.returns-in-Ok-read_condition-clause-done
returns-in-Ok-read_condition-clause-done c = λ done.
    let p = condition_of c.in-Ok.first in
    let q = condition_of c.in-Ok-read_condition.second in (
      p,
      q,
      (
        c.in-Ok.ensures.condition,
        c.in-Ok-read_condition.ensures.condition,
        subst (λ (z : List ℕ). SaysRelated c.args.relation p q c.related.result z c.related.new.out)
            (c.in-Ok-read_condition.ensures.unwritten ∙ c.in-Ok.ensures.unwritten) (c.related.ensures.done done),
      ),
    )

pub returns-in-Ok-read_condition-clause-undecided : goal.returns-in-Ok-read_condition-clause-undecided
returns-in-Ok-read_condition-clause-undecided c = λ is.
    let p = condition_of c.in-Ok.first in
    let q = condition_of c.in-Ok-read_condition.second in (
      p,
      q,
      (c.in-Ok.ensures.condition, c.in-Ok-read_condition.ensures.condition, c.related.ensures.undecided is),
    )
