use Rattle.std.proofs.Common.{arith}
use Rattle.spdx_expressions.proofs.Cutting.{word_step, from_first}
use Rattle.spdx_expressions.proofs.tokens.word_at.Goals as goal

pub returns-clause-next : goal.returns-clause-next
returns-clause-next c =
    let step = word_step c.args.text.now c.args.start c.word_end-end.result
    (omega (arith, c.word_end-end.ensures.order)) c.word_end-end.ensures.within
    (from_first c.args.text.now c.args.start c.word_end-end.result c.requires.begins c.word_end-end.ensures.word)
    c.word_end-end.ensures.past in
    let is = c.range.ensures.value in
    rw is step
