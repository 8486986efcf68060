use Rattle.std.proofs.Common.{Some, subst}
use Rattle.std.proofs.lemmas.Result.{IfOk-weaker}
use Rattle.cargo_platform.specs.Snippets.{IsSnippet}
use Rattle.cargo_platform.proofs.error.ParseError.snippet_in.Goals as goal

pub returns-in-Some : goal.returns-in-Some
returns-in-Some c =
    IfOk-weaker c.snippet_at.result _ _
    (λ s is. (
      Some c.in-Some.span,
      c.in-Some.ensures,
      subst (λ z. IsSnippet c.args.key.now (Some c.in-Some.span) z s) c.kind.ensures is,
    ))
    c.snippet_at.ensures
