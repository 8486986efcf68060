use Rattle.byte_commands.proofs.run_with.Goals as goal

pub returns-in-Ok-command-clause-done : goal.returns-in-Ok-command-clause-done
returns-in-Ok-command-clause-done g c = λ is. (
  c.in-Ok.given,
  (
    c.in-Ok-command.answer,
    (c.in-Ok.ensures.arguments, c.in-Ok.ensures.files, c.in-Ok-command.ensures, c.written.ensures.done is),
  ),
)
