use Rattle.std.proofs.Common.{subst, Some, IfOk}
use Rattle.cargo_platform.specs.Errors.{fault_in, span_in}
use Rattle.cargo_platform.specs.Snippets.{IsSnippet}
use Rattle.cargo_platform.proofs.error.ParseError.snippet.Goals as goal

pub returns-in-Some : goal.returns-in-Some
returns-in-Some c =
    let self = c.args.self.now in
    let r = c.snippet_at.result in
    subst (λ z. IfOk r (λ s. IsSnippet z (span_in self) (fault_in self) s)) c.orig.ensures
    (subst (λ z. IfOk r (λ s. IsSnippet c.orig.result.now z (fault_in self) s)) c.in-Some.ensures
    (subst (λ z. IfOk r (λ s. IsSnippet c.orig.result.now (Some c.in-Some.span) z s)) c.kind.ensures
    c.snippet_at.ensures))
