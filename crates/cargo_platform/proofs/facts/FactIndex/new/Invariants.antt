use Rattle.std.proofs.Common.{take, string_bytes}
use Rattle.cargo_platform.proofs.FactIndexes.{AreKept}
use Rattle.cargo_platform.proofs.facts.FactIndex.new.Given as goal

-- the copies so far
abbrev pub invariant-loop-fact : goal.invariant-loop-fact
invariant-loop-fact l =
    AreKept (take l.fact-index l.cfg) (string_bytes l.texts) l.names.items l.pairs.items
