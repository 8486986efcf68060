-- Laws of the tree of an expression: each form of the program is the form of that name in the tree.
use Rattle.std.specs.Prelude.{◌≡◌, map, Box, Vec, box_value}
use Rattle.std.specs.declared.alloc.Global.{Global}
use Rattle.cargo_platform.specs.declared.cfg.Cfg.{Cfg}
use Rattle.cargo_platform.specs.declared.cfg.CfgExpr.{CfgExpr}
use Rattle.cargo_platform.specs.declared.cfg.CfgExpr.TheVariants as expr
use Rattle.cargo_platform.specs.Trees.{Not, All, Any, Value, True, False, value_of, tree_of, trees_of}

abbrev pub IsNotOf : Box CfgExpr Global → Type 0
IsNotOf e = tree_of (expr.Not e) ≡ Not (tree_of (box_value e))

abbrev pub IsAllOf : Vec CfgExpr Global → Type 0
IsAllOf es = tree_of (expr.All es) ≡ All (trees_of (map tree_of es.items))

abbrev pub IsAnyOf : Vec CfgExpr Global → Type 0
IsAnyOf es = tree_of (expr.Any es) ≡ Any (trees_of (map tree_of es.items))

abbrev pub IsValueOf : Cfg → Type 0
IsValueOf c = tree_of (expr.Value c) ≡ Value (value_of c)

-- the two literals
pub record AreLiterals : Type 0 where
  pub yes : tree_of expr.True ≡ True
  pub no : tree_of expr.False ≡ False
