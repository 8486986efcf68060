use Rattle.byte_answers.proofs.relations.possible_by.Goals as goal

pub returns-in-Ok-Yes-clause-yes : goal.returns-in-Ok-Yes-clause-yes
returns-in-Ok-Yes-clause-yes c = λ done holds. (
  c.in-Ok-Yes.target,
  (rw c.in-Ok-Yes.field-0-is at c.in-Ok-Yes.ensures, c.with_example.ensures.example done),
)
