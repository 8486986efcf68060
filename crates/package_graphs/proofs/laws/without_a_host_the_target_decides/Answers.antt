use Rattle.package_graphs.proofs.Alone.{alone_from_none, none_from_alone}
use Rattle.package_graphs.proofs.laws.without_a_host_the_target_decides.Goals as goal

pub returns : goal.returns
returns c packages kinds k p =
    (λ there. alone_from_none packages kinds k (p, there.0) there.1, none_from_alone packages kinds k p)
