use Rattle.cargo_platform.proofs.OpenParens.{HasOpen}
use Rattle.cargo_platform.proofs.parentheses.nesting.Given as goal

abbrev pub invariant-tokens : goal.invariant-tokens
invariant-tokens l = HasOpen l.text l.item-iterator l.unclosed l.most
