use Rattle.std.proofs.Common.{◌∙◌, ◌++◌, chars, codes, length}
use Rattle.std.proofs.lemmas.Result.{IfOk-weaker}
use Rattle.cargo_platform.specs.Print.{print_fault}
use Rattle.cargo_platform.specs.Errors.{fault_meant}
use Rattle.cargo_platform.specs.Snippets.{shown_line, carets}
use Rattle.cargo_platform.proofs.Snippets.{same_carets}
use Rattle.cargo_platform.proofs.snippet.lines.Goals as goal

pub returns : goal.returns
returns c =
    let cs = chars c.args.text.now in
    let behind = same_carets cs c.args.before c.args.inside c.size_for-size.result c.first_shown-first.result
    c.saturating_sub.result c.caret_count.result _ _ _ (codes " " ++ print_fault (fault_meant c.in_ok-kind.kind))
    c.size_for-size.ensures c.first_shown-first.ensures c.saturating_sub.ensures c.caret_count.ensures
    c.margin-margin.ensures c.in_ok-spaces.ensures.bytes c.in_ok-carets.ensures.bytes in
    let line = shown_line cs c.args.before c.args.inside in
    let marks = carets (length cs) c.args.before c.args.inside in
    IfOk-weaker c.format.result _ _
    (λ s is. is ∙ (λ i. c.in_ok-line.ensures i ++ (codes "\n" ++ behind i))
    ∙ (λ i. line ++ (codes "\n" ++ (marks ++ (codes " " ++ print_fault (c.in_ok-kind.ensures i))))))
    c.format.ensures.ok
