use Rattle.std.proofs.Common.{◌≡◌, ◌++◌, take}
use Rattle.std.specs.Prelude.{flat_map}
use Rattle.cargo_features.specs.Steps.{to_feature}
use Rattle.cargo_features.proofs.claims.add_features.Given as goal

abbrev pub invariant-features : goal.invariant-features
invariant-features l =
    l.steps.items ≡ l.fn.steps.items
    ++ flat_map (to_feature l.origin.is_there l.origin.from l.on l.origin.condition) (take l.feature-index l.features)
