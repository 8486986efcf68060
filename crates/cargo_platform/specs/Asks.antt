-- The number of queries to a holder of facts that decide the truth of a tree.
use Rattle.std.specs.Prelude.{ℕ, ◌+◌, if◌then◌else◌}
use Rattle.cargo_platform.specs.Trees.{Tree, Not, All, Any, Value, True, False, Trees, none, tree, Condition, Target}
use Rattle.cargo_platform.specs.Trees.{Expression}
use Rattle.cargo_platform.specs.Facts.{FactSet, truth}

-- one query for each name and pair, from left to right, and none after a member that decides its group
abbrev mutual
  pub asks : FactSet → Tree → ℕ
  asks facts (Not e) = asks facts e
  asks facts (All es) = asks_of_all facts es
  asks facts (Any es) = asks_of_any facts es
  asks facts (Value c) = 1
  asks facts True = 0
  asks facts False = 0

  -- the members up to the first that is false
  pub asks_of_all : FactSet → Trees → ℕ
  asks_of_all facts none = 0
  asks_of_all facts (tree e es) = asks facts e + (if truth facts e then asks_of_all facts es else 0)

  -- the members up to the first that is true
  pub asks_of_any : FactSet → Trees → ℕ
  asks_of_any facts none = 0
  asks_of_any facts (tree e es) = asks facts e + (if truth facts e then 0 else asks_of_any facts es)

-- a target name needs no query
abbrev pub asks_of_condition : FactSet → Condition → ℕ
asks_of_condition facts (Target name) = 0
asks_of_condition facts (Expression e) = asks facts e
