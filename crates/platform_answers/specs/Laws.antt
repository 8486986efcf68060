-- Laws about the definitions.
use Rattle.std.specs.Prelude.{ℕ, ◌≡◌, ◌≤◌, ◌<◌, ◌+◌, ◌-◌, List}
use Rattle.cargo_platform.specs.Snippets.{first_shown, end_shown}
use Rattle.platform_answers.specs.declared.Outcome.{Outcome}
use Rattle.platform_answers.specs.Answering.{IsAnswer}

-- an input has an output, and an outcome
abbrev pub HasAnswer : List ℕ → Type 0
HasAnswer bs = (output : List ℕ) × (outcome : Outcome) × IsAnswer bs output outcome

-- an input has at most one output, and one outcome
abbrev pub HasOneAnswer : List ℕ → Type 0
HasOneAnswer bs = (output other : List ℕ) (outcome another : Outcome) → IsAnswer bs output outcome
    → IsAnswer bs other another → (output ≡ other) × (outcome ≡ another)

-- ---- the part of a text of `size` characters that is shown, with `before` characters before the span and `inside` in
-- it

abbrev pub ShowsWhole : ℕ → ℕ → ℕ → Type 0
ShowsWhole size before inside =
    size ≤ 100 → (first_shown size before ≡ 0) × (end_shown size before inside ≡ size)

abbrev pub ShowsFew : ℕ → ℕ → ℕ → Type 0
ShowsFew size before inside =
    (end_shown size before inside - first_shown size before ≤ 100) × (end_shown size before inside ≤ size)

abbrev pub ShowsStart : ℕ → ℕ → Type 0
ShowsStart size before = first_shown size before ≤ before

abbrev pub ShowsShortSpan : ℕ → ℕ → ℕ → Type 0
ShowsShortSpan size before inside =
    inside ≤ 40 → before + inside ≤ size → before + inside ≤ end_shown size before inside

abbrev pub ShowsLongSpan : ℕ → ℕ → ℕ → Type 0
ShowsLongSpan size before inside =
    40 < inside → before + inside ≤ size → before + 40 ≤ end_shown size before inside
