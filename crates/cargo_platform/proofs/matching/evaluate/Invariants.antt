use Rattle.cargo_platform.specs.Walk.{start}
use Rattle.cargo_platform.specs.Inside.Ahead.{bytes_left}
use Rattle.cargo_platform.specs.Inside.Matching.{words, Wants}
use Rattle.cargo_platform.proofs.matching.evaluate.Given as goal

-- what was read opened the groups, with their members so far
abbrev pub invariant-members : goal.invariant-members
invariant-members g l =
    Wants (g.F.TextFacts.meant l.facts) l.fn.reader.ahead l.reader.ahead start (words l.levels)

abbrev pub decreases-members : goal.decreases-members
decreases-members g l = bytes_left l.reader.ahead
