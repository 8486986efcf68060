use Rattle.std.proofs.Common.{subst, ℕ, List}
use Rattle.byte_answers.specs.Refusals.{IsRefusal}
use Rattle.byte_answers.proofs.reading.read_condition.Goals as goal

pub returns-in-Err-Parse-clause-refused : goal.returns-in-Err-Parse-clause-refused
returns-in-Err-Parse-clause-refused c = λ is.
    subst (λ (z : List ℕ). IsRefusal z c.refused.result c.args.out.now c.refused.new.out) c.in_ok-key.ensures.text
    (c.refused.ensures.refused is)
