use Rattle.std.proofs.Common.{◌≡◌, Some, take}
use Rattle.std.specs.Prelude.{All}
use Rattle.std.specs.Option.{option_copied}
use Rattle.declared_features.proofs.missing_edges.are_all_under.Given as goal

abbrev pub invariant-kinds : goal.invariant-kinds
invariant-kinds l = All (λ row. option_copied row.condition ≡ Some l.condition) (take l.i l.kinds)
