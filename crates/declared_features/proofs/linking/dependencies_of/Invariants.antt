use Rattle.std.proofs.Common.{take}
use Rattle.declared_features.specs.Lists.{MatchesJust}
use Rattle.declared_features.specs.Requests.{IsLink, IsNamedOf}
use Rattle.declared_features.specs.Inside.Names.{index_in}
use Rattle.declared_features.specs.Inside.Links.{IsLinkBelow}
use Rattle.declared_features.proofs.linking.dependencies_of.Given as goal

abbrev pub invariant-rows : goal.invariant-rows
invariant-rows l =
    MatchesJust (IsLink l.graph l.node (take l.i l.rows.items) l.manifest.dependencies.items)
    (λ link found. IsNamedOf (index_in l.names) l.node link.0 link.1 found) l.found.items

abbrev pub invariant-declared : goal.invariant-declared
invariant-declared l =
    MatchesJust (IsLinkBelow l.graph l.node l.rows.items l.i l.manifest.dependencies.items l.j)
    (λ link found. IsNamedOf (index_in l.names) l.node link.0 link.1 found) l.found.items
