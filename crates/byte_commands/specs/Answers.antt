-- What a caller's buffer has after a command.
use Rattle.std.specs.Prelude.{◌≡◌, ℕ, List, ◌++◌, length, string_bytes}
use Rattle.key_answers.specs.declared.answer.Answer.{Answer}
use Rattle.key_answers.specs.Printing.{code_of}
use Rattle.byte_answers.specs.declared.outcome.Outcome.{Outcome}
use Rattle.byte_answers.specs.Outcomes.{IsWritten}

-- an output is written, and the errors after it, which are from `start` to `end`
abbrev pub IsAnswer : Outcome → List ℕ → List ℕ → Type 0
IsAnswer o old new =
    (output errors : List ℕ)
    × (IsWritten (output ++ errors) o.needed old new × (o.start ≡ length output) × (o.end ≡ o.needed))

-- these are the output and the errors of this answer, and `argument` is its exit status
abbrev pub IsAnswerOf : Answer → Outcome → List ℕ → List ℕ → Type 0
IsAnswerOf a o old new =
    IsWritten (string_bytes a.output ++ string_bytes a.errors) o.needed old new
    × (o.start ≡ length (string_bytes a.output)) × (o.end ≡ o.needed) × (o.argument ≡ code_of a.status)
