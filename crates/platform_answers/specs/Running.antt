-- The output of a whole run.
use Rattle.std.specs.Prelude.{ℕ, ◌≡◌, Option, List, length}
use Rattle.std.specs.Io.KnownBytes.{Appends}
use Rattle.platform_answers.specs.declared.Outcome.{Outcome}
use Rattle.platform_answers.specs.declared.counted.WriteCounts.{WriteCounts}
use Rattle.platform_answers.specs.Answering.{IsAnswer}
use Rattle.platform_answers.specs.Writing.{WritesBeginning, failures, IsFlushed, HasWriteFault, IsWithinWrites}

-- the writer took the whole output for these bytes, which belongs to the outcome, no call failed, and one flush came
-- after all writes
pub record Answers (old new : Option (List ℕ)) (counts : WriteCounts) (outcome : Outcome) (bs : List ℕ) : Type 0 where
  pub output : List ℕ
  pub is_answer : IsAnswer bs output outcome
  pub written : Appends old new output
  pub unfailed : failures counts ≡ 0
  pub flushed : IsFlushed counts
  pub within : IsWithinWrites counts (length output)

-- the writer took a beginning of the output for these bytes, and a count has the reason why no more
pub record BreaksOff (old new : Option (List ℕ)) (counts : WriteCounts) (bs : List ℕ) : Type 0 where
  pub output : List ℕ
  pub outcome : Outcome
  pub is_answer : IsAnswer bs output outcome
  pub written : WritesBeginning old new output
  pub fault : HasWriteFault counts (length output)
  pub within : IsWithinWrites counts (length output)
