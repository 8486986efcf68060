use Rattle.cargo_features.specs.Inside.Numbered.{AreNumbers}
use Rattle.declared_features.specs.Lists.{SomeBelow}
use Rattle.declared_features.specs.NameSets.{AddsNames}
use Rattle.declared_features.specs.MissingEdges.{IsEnabled, TurnOn}
use Rattle.declared_features.proofs.missing_edges.add_resolved.Given as goal

abbrev pub invariant-features : goal.invariant-features
invariant-features l =
    AreNumbers l.resolved.packages.items l.resolved.found.numbers
    → AddsNames l.initial.names l.names
    (λ q. SomeBelow l.i l.manifest.features.items
    (λ i feature. IsEnabled l.resolved l.node i × TurnOn feature.lists.items q))
