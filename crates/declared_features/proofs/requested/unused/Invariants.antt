use Rattle.std.proofs.Common.{◌≡◌, take}
use Rattle.declared_features.proofs.requested.unused.Given as goal

abbrev pub invariant-features : goal.invariant-features
invariant-features l = l.requested.items ≡ take l.feature-index l.features
