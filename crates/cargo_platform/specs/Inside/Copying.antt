-- The groups that are being copied around a copy, the whole that they make, and the next thing to handle, by cases.
use Rattle.std.specs.Prelude.{ℕ, ◌+◌, ◌*◌, List, [], ◌∷◌, ◌++◌, map, reverse, sum}
use Rattle.cargo_platform.specs.declared.cfg.CfgExpr.{CfgExpr}
use Rattle.cargo_platform.specs.declared.clone.Next.{Next}
use Rattle.cargo_platform.specs.declared.clone.Next.TheVariants as next
use Rattle.cargo_platform.specs.declared.clone.CopiedGroup.{CopiedGroup}
use Rattle.cargo_platform.specs.declared.clone.CopiedGroup.TheVariants as group
use Rattle.cargo_platform.specs.declared.clone.CopiedGroups.{CopiedGroups}
use Rattle.cargo_platform.specs.Trees.{Tree, Not, tree_of}
use Rattle.cargo_platform.specs.Walk.{list_tree}
use Rattle.cargo_platform.specs.Inside.Parsing.{is_all}
use Rattle.cargo_platform.specs.ExpressionSizes.{node_counts}

-- the group with this member in its place
abbrev pub around : CopiedGroup → Tree → Tree
around group.Not e = Not e
around (group.List word copies left) e = list_tree (is_all word) (map tree_of copies.items ++ e ∷ map tree_of left.now)

-- from the innermost group to the outermost
abbrev pub within : List CopiedGroup → Tree → Tree
within [] e = e
within (g ∷ gs) e = within gs (around g e)

abbrev pub whole : CopiedGroups → Tree → Tree
whole c e = within (reverse c.groups.items) e

-- what decreases while the members of a group are copied
abbrev pub left_in : CopiedGroup → ℕ
left_in group.Not = 1
left_in (group.List word copies left) = 2 * node_counts left.now + 1

abbrev pub work : CopiedGroups → ℕ
work c = sum (map left_in c.groups.items)

-- P of an expression to copy, or Q of a copy
abbrev pub MatchNext : Next → (CfgExpr → Type 0) → (CfgExpr → Type 0) → Type 0
MatchNext (next.Expression e) P Q = P e.now
MatchNext (next.Copy copy) P Q = Q copy

-- P of the expression, if an expression is to be copied
abbrev pub ForExpression : Next → (CfgExpr → Type 0) → Type 0
ForExpression (next.Expression e) P = P e.now
ForExpression (next.Copy copy) P = Unit {0}
