use Rattle.std.proofs.Common.{ℕ, ◌<◌, ◌+◌, get_or}
use Rattle.package_graphs.specs.declared.packages.Dependency.{Dependency}
use Rattle.package_graphs.specs.Inside.Searching.{IsWithin, distance}
use Rattle.package_graphs.proofs.paths.Search.are_near.Given as goal

abbrev pub invariant-dependencies : goal.invariant-dependencies
invariant-dependencies l =
    (j : ℕ) (d : Dependency) → j < l.i
    → IsWithin l.self l.distances l.place (distance l.distances l.place + 1) (get_or l.dependencies j d)
