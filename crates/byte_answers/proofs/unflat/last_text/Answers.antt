use Rattle.std.proofs.Common.{sym, ◌∙◌, subst, List, ℕ}
use Rattle.std.specs.Str.{IsUtf8}
use Rattle.byte_answers.proofs.Pieces.{same_ends}
use Rattle.byte_answers.proofs.unflat.last_text.Goals as goal

pub returns-in-Err : goal.returns-in-Err
returns-in-Err c = λ front text is_text size same.
    let s = same_ends front text c.in_ok-before.before.now c.in_ok-before.last.now
    (sym same ∙ c.in_ok-before.ensures.0) (size ∙ sym c.in_ok-before.ensures.1) in
    c.in-Err.ensures.cases.0 (subst (λ (z : List ℕ). IsUtf8 z) s.1 is_text)
