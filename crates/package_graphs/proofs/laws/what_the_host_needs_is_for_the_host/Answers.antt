use Rattle.std.proofs.Common.{◌∙◌}
use Rattle.package_graphs.specs.Packages.{is_macro}
use Rattle.package_graphs.proofs.Shipped.{of_build, after_evaluated, after_host}
use Rattle.package_graphs.proofs.laws.what_the_host_needs_is_for_the_host.Goals as goal

pub returns-clause-build : goal.returns-clause-build
returns-clause-build c packages kinds host k m n leads is =
    let kind = leads.depends.dependency.kind in
    leads.on ∙ after_evaluated m.1 kind (is_macro packages n.0) (of_build m.1 kind is)

pub returns-clause-host : goal.returns-clause-host
returns-clause-host c packages kinds host k m n leads from =
    leads.on ∙ after_host m.1 leads.depends.dependency.kind (is_macro packages n.0) from
