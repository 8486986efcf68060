use Rattle.std.proofs.Common.{◌∙◌, sym, arith}
use Rattle.std.proofs.lemmas.Result.{IfOk-weaker}
use Rattle.cargo_platform.proofs.Snippets.{shown_as_is}
use Rattle.cargo_platform.proofs.snippet.printable_excerpt.Goals as goal

pub returns-then-is_printable_ascii : goal.returns-then-is_printable_ascii
returns-then-is_printable_ascii c =
    let text = c.args.text.now in
    IfOk-weaker c.from_str.result _ _
    (λ s is. is ∙ shown_as_is text (omega arith) (sym c.is_printable_ascii.ensures ∙ c.if-is_printable_ascii.true))
    c.from_str.ensures.ok
