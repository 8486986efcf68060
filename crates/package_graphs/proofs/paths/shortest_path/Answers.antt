use Rattle.std.proofs.Common.{None}
use Rattle.known_targets.specs.Sets.{place}
use Rattle.package_graphs.proofs.Distances.{same_unreached}
use Rattle.package_graphs.proofs.paths.shortest_path.Goals as goal

pub returns-clause-none : goal.returns-clause-none
returns-clause-none c =
    same_unreached c.path_to.result c.args.packages.now c.new.result.kinds c.args.kinds c.new.result.host c.args.host
    (place c.args.at) None c.args.to c.new.ensures.kinds c.new.ensures.host c.path_to.ensures.none
