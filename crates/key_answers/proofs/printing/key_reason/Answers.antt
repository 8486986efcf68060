use Rattle.std.proofs.Common.{◌≡◌, true, false, string_bytes, sym, ◌∙◌}
use Rattle.std.proofs.lemmas.Result.{IfOk-weaker}
use Rattle.cargo_platform.specs.Errors.{span_in}
use Rattle.key_answers.specs.Printing.{is_unclosed, is_unopened}
use Rattle.key_answers.proofs.Reasons.{of_other, of_placeless, of_unclosed, of_unopened}
use Rattle.key_answers.proofs.printing.key_reason.Goals as goal

pub returns-then-is_unclosed : goal.returns-then-is_unclosed
returns-then-is_unclosed c =
    let is : is_unclosed c.args.key.now ≡ true = sym c.is_unclosed.ensures ∙ c.if-is_unclosed.true in
    IfOk-weaker c.from_str.result _ _
    (λ reason text. of_unclosed c.args.key.now c.args.error.now (string_bytes reason) is text) c.from_str.ensures.ok

pub returns-then-not-is_unopened : goal.returns-then-not-is_unopened
returns-then-not-is_unopened c =
    let not_unclosed : is_unclosed c.args.key.now ≡ false = sym c.is_unclosed.ensures ∙ c.if-is_unclosed.false in
    let closed : is_unopened c.args.key.now ≡ false = sym c.is_unopened.ensures ∙ c.if-not-is_unopened.true in
    IfOk-weaker c.error_text.result _ _
    (λ reason text. of_other c.args.key.now c.args.error.now (string_bytes reason) not_unclosed closed text)
    c.error_text.ensures

pub returns-in-Some : goal.returns-in-Some
returns-in-Some c =
    let not_unclosed : is_unclosed c.args.key.now ≡ false = sym c.is_unclosed.ensures ∙ c.if-is_unclosed.false in
    let is : is_unopened c.args.key.now ≡ true = sym c.is_unopened.ensures ∙ c.if-not-is_unopened.false in
    let place = sym c.span.ensures ∙ c.in-Some.is in
    IfOk-weaker c.unopened_text.result _ _
    (λ reason text. of_unopened c.args.key.now c.args.error.now (string_bytes reason) c.in-Some.span not_unclosed is
    place text)
    c.unopened_text.ensures

pub returns-in-None : goal.returns-in-None
returns-in-None c =
    let not_unclosed : is_unclosed c.args.key.now ≡ false = sym c.is_unclosed.ensures ∙ c.if-is_unclosed.false in
    let is : is_unopened c.args.key.now ≡ true = sym c.is_unopened.ensures ∙ c.if-not-is_unopened.false in
    let place = sym c.span.ensures ∙ c.in-None.is in
    IfOk-weaker c.error_text-in-None.result _ _
    (λ reason text. of_placeless c.args.key.now c.args.error.now (string_bytes reason) not_unclosed is place text)
    c.error_text-in-None.ensures
