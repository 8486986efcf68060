-- The targets on which a condition is true.
use Rattle.std.specs.Prelude.{ℕ, Bool, true}
use Rattle.known_targets.specs.Sets.{place, is_member}
use Rattle.known_targets.specs.declared.known.KnownTarget.{KnownTarget}
use Rattle.cargo_features.specs.declared.claims.StepTargets.{StepTargets}
use Rattle.cargo_features.specs.declared.claims.StepTargets.TheVariants.{Always, OfTarget, OfHost}

-- for a build for the target k, on this host
abbrev pub holds_at : KnownTarget → ℕ → StepTargets → Bool
holds_at host k Always = true
holds_at host k (OfTarget set) = is_member set k
holds_at host k (OfHost set) = is_member set (place host)
