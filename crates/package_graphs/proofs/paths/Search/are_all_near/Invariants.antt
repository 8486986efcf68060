use Rattle.std.proofs.Common.{ℕ, ◌<◌}
use Rattle.package_graphs.specs.Inside.Searching.{IsNear}
use Rattle.package_graphs.specs.declared.sides.Side.{Side}
use Rattle.package_graphs.proofs.paths.Search.are_all_near.Given as goal

abbrev pub invariant-packages : goal.invariant-packages
invariant-packages l = (p : ℕ) (side : Side) → p < l.i → IsNear l.self l.distances (p, side)
