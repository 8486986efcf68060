use Rattle.std.proofs.Common.{arith}
use Rattle.std.proofs.lemmas.Bool.{leb-true}
use Rattle.package_graphs.proofs.Distances.{no_nearer}
use Rattle.package_graphs.proofs.paths.Search.is_no_nearer_on.Goals as goal

pub returns : goal.returns
returns c est others leads =
    let least = leb-true c.args.steps c.distance_at.result est in
    let most = no_nearer c.args.self.now c.args.distances.now c.requires others c.args.to leads c.if-index-self.false in
    omega (arith, least, most, c.distance_at.ensures)
