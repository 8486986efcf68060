-- The number of expressions within an expression, including itself.
use Rattle.std.specs.Prelude.{ℕ, ◌+◌, List, sum, map, box_value}
use Rattle.cargo_platform.specs.declared.cfg.CfgExpr.{CfgExpr, fold-CfgExpr}
use Rattle.cargo_platform.specs.declared.cfg.CfgExpr.TheOpen as layer

abbrev pub size_step : layer.CfgExpr-F ℕ → ℕ
size_step (layer.Not e) = box_value e + 1
size_step (layer.All es) = sum es.items + 1
size_step (layer.Any es) = sum es.items + 1
size_step (layer.Value c) = 1
size_step layer.True = 1
size_step layer.False = 1

abbrev pub node_count : CfgExpr → ℕ
node_count = fold-CfgExpr ℕ size_step

abbrev pub node_counts : List CfgExpr → ℕ
node_counts es = sum (map node_count es)
