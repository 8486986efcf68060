use Rattle.std.proofs.Common.{◌+◌, arith}
use Rattle.package_graphs.specs.Inside.Searching.{IsWithin, distance}
use Rattle.package_graphs.proofs.Distances.{upto_more}
use Rattle.package_graphs.proofs.paths.Search.are_near.Goals as goal

pub dependencies-preserved : goal.dependencies-preserved
dependencies-preserved c =
    let s = c.args.self.now in
    let ds = c.args.distances.now in
    let m = c.args.place in
    upto_more (λ d. IsWithin s ds m (distance ds m + 1) d) c.dependencies_of-dependencies.result.now c.dependencies.i _
    c.dependencies-test.true c.dependencies.invariant
    (λ n leads inside.
    let e = c.is_within.ensures c.if-not-is_within.false n leads inside in
    omega (arith, e, c.saturating_add-most.ensures, c.distance_at-distance.ensures))
