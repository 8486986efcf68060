use Rattle.std.proofs.Common.{◌≡◌, Some, take}
use Rattle.std.specs.Prelude.{Any}
use Rattle.declared_features.specs.Lists.{HasJust}
use Rattle.declared_features.specs.Inside.Names.{index_in}
use Rattle.declared_features.proofs.linking.features_requested.Given as goal

abbrev pub invariant-features : goal.invariant-features
invariant-features l =
    HasJust l.features.items
    (λ index. Any (λ f. index_in l.names l.to f.now ≡ Some index) (take l.i l.declared.features.items))
