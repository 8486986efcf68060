use Rattle.std.proofs.Common.{subst, Some, Result}
use Rattle.cargo_platform.specs.declared.tokens.Spanned.{Spanned}
use Rattle.cargo_platform.specs.declared.tokens.TokenFault.{TokenFault}
use Rattle.cargo_platform.specs.Reading.{NextCall}
use Rattle.manifests.proofs.Lexemes.{one_read, all_read, fault_read}
use Rattle.manifests.proofs.declared.tokens_of.Goals as goal

pub tokens-preserved : goal.tokens-preserved
tokens-preserved c =
    one_read c.args.text.now c.tokens.item-iterator c.next.new.self c.in-Ok.spanned c.tokens.tokens.items
    c.push.new.self.items c.tokens.invariant
    (subst (λ (z : Result Spanned TokenFault). NextCall c.tokens.item-iterator (Some z) c.next.new.self) c.in-Ok.is
    c.in-Some.ensures.steps) c.in_ok-push-in-Ok.ensures.items

pub returns-in-Err : goal.returns-in-Err
returns-in-Err c =
    fault_read c.args.text.now c.tokens.item-iterator c.next.new.self c.in-Err.field-0 c.tokens.tokens.items
    c.tokens.invariant
    (subst (λ (z : Result Spanned TokenFault). NextCall c.tokens.item-iterator (Some z) c.next.new.self) c.in-Err.is
    c.in-Some.ensures.steps)

pub returns : goal.returns
returns c =
    all_read c.args.text.now c.tokens.item-iterator c.next.new.self c.tokens.tokens.items c.tokens.invariant
    c.in-None.ensures.steps
