use Rattle.std.proofs.Common.{◌≡◌, drop}
use Rattle.manifest_lints.specs.Samples.{mixed}
use Rattle.manifest_lints.proofs.sample_sets.mixed.Given as goal

-- the number hangs on the bytes that are left
abbrev pub invariant-bytes : goal.invariant-bytes
invariant-bytes l = mixed l.mixed (drop l.byte-index l.byte-items) ≡ mixed l.fn.start l.fn.text
