use Rattle.std.proofs.Common.{◌∙◌, refl, ap, length, chars, arith}
use Rattle.std.proofs.lemmas.Str.{IsCharBoundary-start}
use Rattle.cargo_platform.specs.Errors.{fault_meant}
use Rattle.cargo_platform.specs.Snippets.{lines_by}
use Rattle.cargo_platform.proofs.snippet.snippet_at.Goals as goal

pub returns-in_default : goal.returns-in_default
returns-in_default c = λ h.
    absurd (c.in_default.ensures.cases (omega arith) (IsCharBoundary-start c.args.text.now c.utf8.text) h.1)

pub returns : goal.returns
returns c = λ h.
    let before = c.count.ensures ∙ ap (λ z. length (chars z)) c.in-Some.ensures.cases.0 in
    let inside = c.count-2.ensures ∙ ap (λ z. length (chars z)) c.in-Some-get.ensures.cases.0 in (
      c.in_ok-lines.lines,
      refl,
      c.in_ok-lines.ensures
          ∙ (λ i. lines_by c.args.text.now (before i) (inside i) (fault_meant c.args.kind.now)),
    )
