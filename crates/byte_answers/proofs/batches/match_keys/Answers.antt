use Rattle.std.proofs.Common.{subst, ℕ, List}
use Rattle.byte_answers.specs.Refusals.{IsRefusedLine}
use Rattle.byte_answers.proofs.batches.match_keys.Goals as goal

pub returns-in-Err-read_facts-clause-refused : goal.returns-in-Err-read_facts-clause-refused
returns-in-Err-read_facts-clause-refused c = λ is.
    subst (λ (z : List ℕ). IsRefusedLine z c.refused_facts.result c.args.out.now c.refused_facts.new.out)
    c.in-Ok-read_text.ensures.text (c.refused_facts.ensures.refused is)
