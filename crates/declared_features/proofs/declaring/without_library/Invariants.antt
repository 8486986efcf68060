use Rattle.std.proofs.Common.{◌≡◌, Some, take}
use Rattle.std.specs.Prelude.{None, cond, is_some, option_map, slice_get}
use Rattle.declared_features.specs.Lists.{SomeBelow}
use Rattle.declared_features.specs.NameSets.{AddsNames}
use Rattle.declared_features.proofs.declaring.without_library.Given as goal

abbrev pub invariant-manifests : goal.invariant-manifests
invariant-manifests l =
    AddsNames l.initial.names l.names
    (λ q. SomeBelow l.i l.manifests
    (λ i manifest. cond (is_some manifest.library) None
    (option_map (λ p. p.name.now) (slice_get l.metadata.packages.items i)) ≡ Some q))
