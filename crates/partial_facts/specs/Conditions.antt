-- The truth of a condition, and its residual. The target's name may be known or not.
use Rattle.std.specs.Prelude.{◌≡◌, ℕ, Bool, Option, Some, None, List, bytes_eq}
use Rattle.cargo_platform.specs.Trees.{Condition, Target, Expression}
use Rattle.cargo_platform.specs.Facts.{Pair}
use Rattle.cargo_platform.specs.Sizes.{size, depth}
use Rattle.partial_facts.specs.Kleene.{kleene}
use Rattle.partial_facts.specs.Residual.{literal, residual_tree, literal_truth, IsLiteralOrOpen}

-- whether the name of a condition is that of the target
abbrev pub is_target : Option (List ℕ) → List ℕ → Option Bool
is_target (Some target) name = Some (bytes_eq name target)
is_target None name = None

abbrev pub kleene_condition : Option (List ℕ) → (Pair → Option Bool) → Condition → Option Bool
kleene_condition target told (Target name) = is_target target name
kleene_condition target told (Expression e) = kleene told e

abbrev pub unless_target : Option Bool → List ℕ → Condition
unless_target (Some b) name = Expression (literal b)
unless_target None name = Target name

abbrev pub residual_condition : Option (List ℕ) → (Pair → Option Bool) → Condition → Condition
residual_condition target told (Target name) = unless_target (is_target target name) name
residual_condition target told (Expression e) = Expression (residual_tree told e)

abbrev pub condition_literal_truth : Condition → Option Bool
condition_literal_truth (Target name) = None
condition_literal_truth (Expression e) = literal_truth e

-- a target name remains only if the target's is not known
abbrev pub IsLiteralOrOpenCondition : Option (List ℕ) → (Pair → Option Bool) → Condition → Type 0
IsLiteralOrOpenCondition target told (Target name) = target ≡ None
IsLiteralOrOpenCondition target told (Expression e) = IsLiteralOrOpen told e

abbrev pub condition_size : Condition → ℕ
condition_size (Target name) = 1
condition_size (Expression e) = size e

abbrev pub condition_depth : Condition → ℕ
condition_depth (Target name) = 1
condition_depth (Expression e) = depth e
