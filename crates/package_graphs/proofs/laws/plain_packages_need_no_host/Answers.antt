use Rattle.package_graphs.proofs.Alone.{alone_from_some, some_from_alone}
use Rattle.package_graphs.proofs.laws.plain_packages_need_no_host.Goals as goal

pub returns : goal.returns
returns c packages kinds host k n plain =
    (alone_from_some packages kinds k host plain n, some_from_alone packages kinds k host plain n)
