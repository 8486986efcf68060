use Rattle.byte_answers.proofs.relations.related_by.Goals as goal

pub returns-in-Ok-No-clause-no : goal.returns-in-Ok-No-clause-no
returns-in-Ok-No-clause-no c = λ done holds. (
  c.in-Ok-No.target,
  (rw c.in-Ok-No.field-0-is at c.in-Ok-No.ensures, c.with_example.ensures.example done),
)
