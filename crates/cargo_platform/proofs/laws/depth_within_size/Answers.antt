use Rattle.std.proofs.Common.{ℕ, ◌+◌, ◌≤◌, max, arith}
use Rattle.cargo_platform.specs.Trees.{Tree, Not, All, Any, Value, True, False, Trees, none, tree}
use Rattle.cargo_platform.specs.Sizes.{size, sizes, depth, depths}
use Rattle.cargo_platform.proofs.laws.depth_within_size.Goals as goal

one_more : (m n : ℕ) → m ≤ n → 1 + m ≤ 1 + n
one_more m n h = omega arith

either_within : (l m n o : ℕ) → l ≤ n → m ≤ o → max l m ≤ n + o
either_within l m n o h k = omega arith

mutual
  within : (e : Tree) → depth e ≤ size e
  within (Not e) = one_more (depth e) (size e) (within e)
  within (All es) = one_more (depths es) (sizes es) (members_within es)
  within (Any es) = one_more (depths es) (sizes es) (members_within es)
  within (Value c) = omega arith
  within True = omega arith
  within False = omega arith

  members_within : (es : Trees) → depths es ≤ sizes es
  members_within none = omega arith
  members_within (tree e es) = either_within (depth e) (depths es) (size e) (sizes es) (within e) (members_within es)

pub returns : goal.returns
returns c = within
