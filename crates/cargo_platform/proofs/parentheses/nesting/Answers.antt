use Rattle.std.proofs.Common.{subst, Some, Result, arith}
use Rattle.cargo_platform.specs.declared.tokens.Spanned.{Spanned}
use Rattle.cargo_platform.specs.declared.tokens.TokenFault.{TokenFault}
use Rattle.cargo_platform.specs.Reading.{NextCall}
use Rattle.cargo_platform.proofs.OpenParens.{one_open, nested_at_end, nested_at_fault, deep_as_tree}
use Rattle.cargo_platform.proofs.parentheses.nesting.Goals as goal

pub tokens-preserved : goal.tokens-preserved
tokens-preserved c =
    one_open c.args.text.now c.tokens.item-iterator c.next.new.self c.in-Ok.spanned c.tokens.unclosed c.tokens.most
    c.open_after-unclosed.result c.max-most.result c.tokens.invariant
    (subst (λ (z : Result Spanned TokenFault). NextCall c.tokens.item-iterator (Some z) c.next.new.self) c.in-Ok.is
    c.in-Some.ensures.steps) c.open_after-unclosed.ensures (omega (arith, c.max-most.ensures))

pub returns-in-Err-clause-nesting : goal.returns-in-Err-clause-nesting
returns-in-Err-clause-nesting c =
    nested_at_fault c.args.text.now c.tokens.item-iterator c.next.new.self c.in-Err.field-0 c.tokens.unclosed
    c.tokens.most c.tokens.invariant
    (subst (λ (z : Result Spanned TokenFault). NextCall c.tokens.item-iterator (Some z) c.next.new.self) c.in-Err.is
    c.in-Some.ensures.steps)

pub returns-in-Err-clause-tree : goal.returns-in-Err-clause-tree
returns-in-Err-clause-tree c = deep_as_tree c.args.text.now c.tokens.most (returns-in-Err-clause-nesting c)

pub returns-clause-nesting : goal.returns-clause-nesting
returns-clause-nesting c =
    nested_at_end c.args.text.now c.tokens.item-iterator c.next.new.self c.tokens.unclosed c.tokens.most
    c.tokens.invariant c.in-None.ensures.steps

pub returns-clause-tree : goal.returns-clause-tree
returns-clause-tree c = deep_as_tree c.args.text.now c.tokens.most (returns-clause-nesting c)
