use Rattle.std.proofs.Common.{ℕ, ◌+◌, ◌≤◌, Bool, true, false, if◌then◌else◌, length, length-append, arith}
use Rattle.cargo_platform.specs.Trees.{Tree, Not, All, Any, Value, True, False, Trees, none, tree}
use Rattle.cargo_platform.specs.Facts.{FactSet, truth}
use Rattle.cargo_platform.specs.Asks.{asks, asks_of_all, asks_of_any}
use Rattle.cargo_platform.specs.Warnings.{values, members_values}
use Rattle.cargo_platform.proofs.laws.asks_within_values.Goals as goal

while_true : (b : Bool) (l m n o : ℕ) → l ≤ n → m ≤ o → l + (if b then m else 0) ≤ n + o
while_true true l m n o h k = omega arith
while_true false l m n o h k = omega arith

while_false : (b : Bool) (l m n o : ℕ) → l ≤ n → m ≤ o → l + (if b then 0 else m) ≤ n + o
while_false true l m n o h k = omega arith
while_false false l m n o h k = omega arith

mutual
  within : (facts : FactSet) (e : Tree) → asks facts e ≤ length (values e)
  within facts (Not e) = within facts e
  within facts (All es) = all_within facts es
  within facts (Any es) = any_within facts es
  within facts (Value c) = omega arith
  within facts True = omega arith
  within facts False = omega arith

  all_within : (facts : FactSet) (es : Trees) → asks_of_all facts es ≤ length (members_values es)
  all_within facts none = omega arith
  all_within facts (tree e es) =
      rw (length-append (values e) (members_values es))
      (while_true (truth facts e) (asks facts e) (asks_of_all facts es) (length (values e))
      (length (members_values es)) (within facts e) (all_within facts es))

  any_within : (facts : FactSet) (es : Trees) → asks_of_any facts es ≤ length (members_values es)
  any_within facts none = omega arith
  any_within facts (tree e es) =
      rw (length-append (values e) (members_values es))
      (while_false (truth facts e) (asks facts e) (asks_of_any facts es) (length (values e))
      (length (members_values es)) (within facts e) (any_within facts es))

pub returns : goal.returns
returns c = within
