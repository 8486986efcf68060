use Rattle.std.proofs.Common.{◌≤◌}
use Rattle.cargo_platform.proofs.facts.sizes.Given as goal

abbrev pub invariant-loop-fact : goal.invariant-loop-fact
invariant-loop-fact l = l.names ≤ l.fact-index
