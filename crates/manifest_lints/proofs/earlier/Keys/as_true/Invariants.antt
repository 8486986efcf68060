use Rattle.std.proofs.Common.{take}
use Rattle.cargo_platform.specs.Trees.{condition_of}
use Rattle.manifest_lints.specs.Earlier.{NoneIsEquivalent}
use Rattle.manifest_lints.proofs.earlier.Keys.as_true.Given as goal

-- none of those that were compared is as true
abbrev pub invariant-places : goal.invariant-places
invariant-places l = NoneIsEquivalent l.known l.self (condition_of l.platform) (take l.place-index l.place-items)
