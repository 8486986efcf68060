use Rattle.std.proofs.Common.{sym, ◌∙◌, ◌++◌, append_assoc}
use Rattle.byte_answers.proofs.Pieces.{same_ends}
use Rattle.byte_answers.proofs.unflat.last_texts.Goals as goal

pub returns-in_default : goal.returns-in_default
returns-in_default c = λ front first second one other a b same.
    c.in_default.ensures (front ++ first) second other b (same ∙ sym (append_assoc front first second))

pub returns-in_default-last_text : goal.returns-in_default-last_text
returns-in_default-last_text c = λ front first second one other a b same.
    let s = same_ends (front ++ first) second c.in-Some.rest.now c.in-Some.second.now
    (append_assoc front first second ∙ sym same ∙ c.in-Some.ensures.0) (b ∙ sym c.in-Some.ensures.1) in
    c.in_default-last_text.ensures front first one a (sym s.0)
