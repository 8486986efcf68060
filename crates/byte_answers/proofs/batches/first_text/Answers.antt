use Rattle.std.proofs.Common.{arith}
use Rattle.byte_answers.proofs.LengthPrefixedTexts.{cut, first_is, none_first, number_alone, too_few}
use Rattle.byte_answers.proofs.batches.first_text.Goals as goal

pub returns-in_err-size : goal.returns-in_err-size
returns-in_err-size c =
    rw c.from_residual.ensures (λ text rest is.
    too_few c.args.bytes.now text rest c.in_err-size.ensures.cases is)

pub returns-in_err-text : goal.returns-in_err-text
returns-in_err-text c =
    let cases = c.in_ok-size.ensures.cases in
    let size = c.in_ok-size.size.now in
    let n = c.in_ok-_front.length in
    rw c.from_residual-in_err-text.ensures (λ text others is.
    none_first c.args.bytes.now size c.in_ok-size.rest.now text others n (omega arith)
    (cut c.args.bytes.now size c.in_ok-size.rest.now 8 cases.1 cases.2)
    (number_alone size c.in_ok-_front._front.now n c.in_ok-_front.ensures.0 cases.3) c.in_ok-_front.ensures.1
    c.in_err-text.ensures.cases is)

pub returns : goal.returns
returns c =
    let cases = c.in_ok-size.ensures.cases in
    let size = c.in_ok-size.size.now in
    let rest = c.in_ok-size.rest.now in
    let n = c.in_ok-_front.length in
    let parts = c.in_ok-text.ensures.cases in
    first_is c.args.bytes.now size rest c.in_ok-text.text.now c.in_ok-text.others.now n
    (cut c.args.bytes.now size rest 8 cases.1 cases.2)
    (cut rest c.in_ok-text.text.now c.in_ok-text.others.now n parts.1 parts.2)
    (number_alone size c.in_ok-_front._front.now n c.in_ok-_front.ensures.0 cases.3) parts.3
