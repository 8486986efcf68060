-- The expression that parts make up.
use Rattle.cargo_platform.specs.declared.cfg.CfgExpr.{CfgExpr}
use Rattle.cargo_platform.specs.declared.cfg.CfgExpr.TheVariants as expression
use Rattle.cargo_platform.specs.declared.cfg.CfgExprParts.{CfgExprParts}
use Rattle.cargo_platform.specs.declared.cfg.CfgExprParts.TheVariants as part

abbrev pub joined : CfgExprParts → CfgExpr
joined (part.Not e) = expression.Not e
joined (part.All es) = expression.All es
joined (part.Any es) = expression.Any es
joined (part.Value c) = expression.Value c
joined part.True = expression.True
joined part.False = expression.False
