use Rattle.cargo_platform.specs.ExpressionSizes.{node_counts}
use Rattle.cargo_platform.proofs.cfg.CfgExpr.drop_members.Given as goal

abbrev pub decreases-loop-last : goal.decreases-loop-last
decreases-loop-last l = node_counts l.left.items
