use Rattle.std.proofs.Common.{◌+◌, ◌≤◌}
use Rattle.cargo_platform.specs.ExpressionSizes.{node_count, node_counts}
use Rattle.cargo_platform.proofs.cfg.CfgExpr.drop_to_members.Given as goal

abbrev pub invariant-levels : goal.invariant-levels
invariant-levels l =
    node_count l.e + node_counts l.left.items ≤ node_count l.initial.e + node_counts l.initial.left.items
