use Rattle.byte_answers.proofs.Openings.{found_at, not_at}
use Rattle.byte_answers.proofs.prepared.are_at.Goals as goal

pub returns-clause-found : goal.returns-clause-found
returns-clause-found c = λ holds.
    found_at c.args.texts.now c.split_at.result.1.now c.args.sought.now c.args.start c.starts_with.result
    c.if-texts-start.false c.split_at.ensures.back c.starts_with.ensures.value holds

pub returns-clause-absent : goal.returns-clause-absent
returns-clause-absent c = λ fails.
    not_at c.args.texts.now c.split_at.result.1.now c.args.sought.now c.args.start c.starts_with.result
    c.if-texts-start.false c.split_at.ensures.back c.starts_with.ensures.value fails
