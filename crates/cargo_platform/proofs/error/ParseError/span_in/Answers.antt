use Rattle.std.proofs.Common.{sym, subst}
use Rattle.cargo_platform.specs.Errors.{fault_in, orig_of, span_in}
use Rattle.cargo_platform.specs.KeySpans.{IsNotIn}
use Rattle.cargo_platform.proofs.KeySpans.{stands_nowhere}
use Rattle.cargo_platform.proofs.error.ParseError.span_in.Goals as goal

pub returns-in_err-place : goal.returns-in_err-place
returns-in_err-place c =
    let key = c.args.key.now in
    let self = c.args.self.now in
    stands_nowhere key (orig_of self) (fault_in self) (span_in self) c.in_ok-span.span
    c.from_residual-in_err-place.result (sym c.in_ok-span.ensures) c.from_residual-in_err-place.ensures
    (subst (λ z. IsNotIn key z (fault_in self)) c.orig.ensures
    (subst (λ z. IsNotIn key c.orig.result.now z) c.kind.ensures c.in_err-place.ensures))
