use Rattle.std.proofs.Common.{subst, ℕ, List}
use Rattle.byte_answers.specs.Refusals.{IsRefusedLine}
use Rattle.byte_answers.proofs.matching.matches.Goals as goal

pub returns-in-Ok-read_text-2-clause-line : goal.returns-in-Ok-read_text-2-clause-line
returns-in-Ok-read_text-2-clause-line c = λ is lines.
    subst (λ (z : List ℕ). IsRefusedLine z c.match_lines.result c.args.out.now c.match_lines.new.out)
    c.in-Ok-read_text-2.ensures.text
    (subst (λ (z : List ℕ).
    IsRefusedLine c.in-Ok-read_text-2.lines.now c.match_lines.result z c.match_lines.new.out)
    c.in-Ok.ensures.unwritten (c.match_lines.ensures.refused is))
