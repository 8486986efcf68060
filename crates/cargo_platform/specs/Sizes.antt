-- The size and the depth of a tree.
use Rattle.std.specs.Prelude.{ℕ, ◌+◌, max}
use Rattle.cargo_platform.specs.Trees.{Tree, Not, All, Any, Value, True, False, Trees, none, tree}

-- the number of groups, negations, values and literals in the tree
abbrev mutual
  pub size : Tree → ℕ
  size (Not e) = 1 + size e
  size (All es) = 1 + sizes es
  size (Any es) = 1 + sizes es
  size (Value c) = 1
  size True = 1
  size False = 1

  pub sizes : Trees → ℕ
  sizes none = 0
  sizes (tree e es) = size e + sizes es

-- the number of them on the longest path down, with both ends
abbrev mutual
  pub depth : Tree → ℕ
  depth (Not e) = 1 + depth e
  depth (All es) = 1 + depths es
  depth (Any es) = 1 + depths es
  depth (Value c) = 1
  depth True = 1
  depth False = 1

  pub depths : Trees → ℕ
  depths none = 0
  depths (tree e es) = max (depth e) (depths es)
