use Rattle.std.proofs.Common.{◌≡◌, ◌-◌, ◌∷◌, [], length, take}
use Rattle.std.specs.Prelude.{All, filter, map}
use Rattle.package_graphs.specs.declared.packages.Kind.TheVariants.{Normal}
use Rattle.declared_features.specs.Activation.{is_dev, request_of, IsUnused}
use Rattle.declared_features.proofs.requested.activating.Given as goal

abbrev pub invariant-dependencies : goal.invariant-dependencies
invariant-dependencies l =
    (map request_of l.dependencies.items
    ≡ (l.index, Normal, (length l.unit.features.items - 1) ∷ [])
    ∷ map request_of (filter (λ d. is_dev d.kind) (take l.it-index l.unit.dependencies.items)))
    × All IsUnused l.dependencies.items
