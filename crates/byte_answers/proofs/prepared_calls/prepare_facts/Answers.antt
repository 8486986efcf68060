use Rattle.std.proofs.Common.{subst, ℕ, List}
use Rattle.byte_answers.specs.Refusals.{IsRefusedLine}
use Rattle.byte_answers.proofs.prepared_calls.prepare_facts.Goals as goal

pub returns-clause-refused : goal.returns-clause-refused
returns-clause-refused c = λ is.
    subst (λ (z : List ℕ). IsRefusedLine z c.refused_facts.result c.args.out.now c.refused_facts.new.out)
    c.in-Ok.ensures.text (c.refused_facts.ensures.refused is)
