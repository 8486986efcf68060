use Rattle.std.proofs.Common.{ℕ, ◌≤◌}
use Rattle.cargo_platform.proofs.OpenParens.{HasOpen}
use Rattle.cargo_platform.proofs.parentheses.nesting_beyond.Given as goal

-- no more than the given number were open yet
abbrev pub invariant-tokens : goal.invariant-tokens
invariant-tokens l = (deepest : ℕ) × HasOpen l.text l.item-iterator l.unclosed deepest × deepest ≤ l.most
