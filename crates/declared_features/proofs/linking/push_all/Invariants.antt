use Rattle.std.proofs.Common.{◌≡◌, ℕ, ◌<◌}
use Rattle.cargo_features.specs.declared.packages.FeatureValue.TheVariants as member
use Rattle.declared_features.specs.Lists.{Adds}
use Rattle.declared_features.proofs.linking.push_all.Given as goal

abbrev pub invariant-features : goal.invariant-features
invariant-features l =
    Adds l.initial.members.items l.members.items (λ m. (i : ℕ) × (i < l.i) × (m ≡ member.Feature i))
