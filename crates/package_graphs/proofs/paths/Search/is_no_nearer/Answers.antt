use Rattle.std.proofs.Common.{◌≤◌, arith}
use Rattle.std.proofs.lemmas.Bool.{leb-true}
use Rattle.package_graphs.specs.Inside.Searching.{distance}
use Rattle.package_graphs.specs.declared.sides.Side.TheVariants.{Host}
use Rattle.package_graphs.proofs.Distances.{both_far}
use Rattle.package_graphs.proofs.paths.Search.is_no_nearer.Goals as goal

pub returns : goal.returns
returns c est others leads =
    let s = c.args.self.now in
    let ds = c.args.distances.now in
    let host : c.args.steps ≤ distance ds (c.args.to, Host) =
    omega (arith, leb-true c.args.steps c.distance_at-2.result est, c.distance_at-2.ensures) in
    both_far s ds c.args.to c.args.steps (omega (arith, c.if-steps-distance_at.false, c.distance_at.ensures)) host
    c.requires c.if-to-self.false others
    leads
