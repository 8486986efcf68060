use Rattle.std.proofs.Common.{subst, ℕ, List}
use Rattle.byte_answers.specs.Refusals.{IsShownRefusal}
use Rattle.byte_answers.proofs.keys.fault_snippet.Goals as goal

pub returns-in-Err-Parse-clause-refused : goal.returns-in-Err-Parse-clause-refused
returns-in-Err-Parse-clause-refused c = λ is.
    subst (λ (z : List ℕ). IsShownRefusal z c.shown.result c.args.out.now c.shown.new.out) c.in-Ok.ensures.text
    (c.shown.ensures.refused is)
