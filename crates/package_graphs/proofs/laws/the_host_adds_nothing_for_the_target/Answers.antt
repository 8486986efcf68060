use Rattle.std.proofs.Common.{sym}
use Rattle.package_graphs.specs.Packages.{shipped}
use Rattle.package_graphs.proofs.Shipped.{shipped_too, same_shipped}
use Rattle.package_graphs.proofs.laws.the_host_adds_nothing_for_the_target.Goals as goal

pub returns : goal.returns
returns c packages kinds host other k n target = (
  shipped_too packages kinds (shipped kinds) host other k (same_shipped kinds) n target,
  shipped_too packages (shipped kinds) kinds other host k
      (λ root kind is. sym (same_shipped kinds root kind is)) n target,
)
