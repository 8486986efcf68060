use Rattle.std.proofs.Common.{subst, Some, Result, max, arith, refl}
use Rattle.cargo_platform.specs.declared.tokens.Spanned.{Spanned}
use Rattle.cargo_platform.specs.declared.tokens.TokenFault.{TokenFault}
use Rattle.cargo_platform.specs.Reading.{NextCall}
use Rattle.cargo_platform.proofs.OpenParens.{one_open, nested_at_end, nested_at_fault, passed}
use Rattle.cargo_platform.proofs.OpenParens.{passed_beyond, nested_within_bytes}
use Rattle.cargo_platform.proofs.parentheses.nesting_beyond.Goals as goal

pub returns-then-text-most-clause-within : goal.returns-then-text-most-clause-within
returns-then-text-most-clause-within c =
    nested_within_bytes c.args.text.now c.args.most c.utf8.text (omega arith)

pub tokens-preserved : goal.tokens-preserved
tokens-preserved c = (
  max c.tokens.invariant.0 c.open_after-unclosed.result,
  one_open c.args.text.now c.tokens.item-iterator c.next.new.self c.in-Ok.spanned c.tokens.unclosed
      c.tokens.invariant.0 c.open_after-unclosed.result (max c.tokens.invariant.0 c.open_after-unclosed.result)
      c.tokens.invariant.1
      (subst (λ (z : Result Spanned TokenFault). NextCall c.tokens.item-iterator (Some z) c.next.new.self) c.in-Ok.is
      c.in-Some.ensures.steps) c.open_after-unclosed.ensures refl,
  omega (arith, c.tokens.invariant.2, c.if-most-unclosed.false),
)

pub returns-then-most-unclosed-clause-passed : goal.returns-then-most-unclosed-clause-passed
returns-then-most-unclosed-clause-passed c =
    passed c.args.text.now c.tokens.item-iterator c.next.new.self c.in-Ok.spanned c.tokens.unclosed
    c.tokens.invariant.0 c.args.most c.open_after-unclosed.result c.tokens.invariant.1 c.tokens.invariant.2
    (subst (λ (z : Result Spanned TokenFault). NextCall c.tokens.item-iterator (Some z) c.next.new.self) c.in-Ok.is
    c.in-Some.ensures.steps) c.open_after-unclosed.ensures c.if-most-unclosed.true

pub returns-then-most-unclosed-clause-beyond : goal.returns-then-most-unclosed-clause-beyond
returns-then-most-unclosed-clause-beyond c =
    passed_beyond c.args.text.now c.args.most _ (returns-then-most-unclosed-clause-passed c)

pub returns-in-Err-clause-within : goal.returns-in-Err-clause-within
returns-in-Err-clause-within c = (
  c.tokens.invariant.0,
  nested_at_fault c.args.text.now c.tokens.item-iterator c.next.new.self c.in-Err.field-0 c.tokens.unclosed
      c.tokens.invariant.0 c.tokens.invariant.1
      (subst (λ (z : Result Spanned TokenFault). NextCall c.tokens.item-iterator (Some z) c.next.new.self) c.in-Err.is
      c.in-Some.ensures.steps),
  c.tokens.invariant.2,
)

pub returns-clause-within : goal.returns-clause-within
returns-clause-within c = (
  c.tokens.invariant.0,
  nested_at_end c.args.text.now c.tokens.item-iterator c.next.new.self c.tokens.unclosed c.tokens.invariant.0
      c.tokens.invariant.1 c.in-None.ensures.steps,
  c.tokens.invariant.2,
)
