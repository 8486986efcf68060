use Rattle.std.proofs.Common.{◌≡◌, ◌∙◌, sym, ap, true, false}
use Rattle.exact_answers.specs.Inside.Ahead.{both}
use Rattle.exact_answers.proofs.Ahead.{and_covers, or_covers}
use Rattle.exact_answers.proofs.outlook.joined_sets.Goals as goal

pub returns-then-each : goal.returns-then-each
returns-then-each c = λ l a b f g h.
    let is : c.args.each ≡ true = c.if-each.true in
    and_covers c.args.word c.args.other l a b f g (sym (ap (λ e. both e a b) is) ∙ h)

pub returns-else-each : goal.returns-else-each
returns-else-each c = λ l a b f g h.
    let is : c.args.each ≡ false = c.if-each.false in
    or_covers c.args.word c.args.other l a b f g (sym (ap (λ e. both e a b) is) ∙ h)
