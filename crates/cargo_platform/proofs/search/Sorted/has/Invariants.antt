use Rattle.std.proofs.Common.{length}
use Rattle.cargo_platform.proofs.Halving.{IsHalved}
use Rattle.cargo_platform.proofs.search.Sorted.has.Given as goal

abbrev pub invariant-halves : goal.invariant-halves
invariant-halves g l =
    IsHalved (g.S.Sought.order l.sought) l.self.members.items l.left (g.T.Tally.asks l.initial.tally)
    (g.T.Tally.asks l.tally)

abbrev pub decreases-halves : goal.decreases-halves
decreases-halves g l = length l.left
